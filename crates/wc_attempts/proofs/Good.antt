-- Values that are good for ports: what calls make of them, and where they come from.
use Rattle.std.proofs.Common.{◌≡◌, ◌∙◌, ap, sym, refl, subst, ℕ, Bool, true, false, List, [], ◌∷◌, ◌++◌, Option, Some, None}
use Rattle.std.specs.Prelude.{not, is_none, ◌&&◌, ◌||◌, if◌then◌else◌}
use Rattle.std.specs.List.{AllByRecursion, list_all}
use Rattle.std.specs.Str.{bytes_eq}
use Rattle.wc_value.proofs.Puts.{ascends_put, same_name}
use Rattle.wc_value.specs.Ascending.{Ascends, before, lookup, put}
use Rattle.wc_value.specs.declared.value.Value.{Value}
use Rattle.wc_syntax.specs.Findings.{is_among, port_names}
use Rattle.wc_syntax.specs.declared.definition.Port.{Port}
use Rattle.wc_semantics.specs.Meaning.{is_good}
use Rattle.wc_semantics.specs.Rules.{Values, fits_port}
use Rattle.wc_meaning.specs.Inputs.{bad_input, least, least_after, missing_inputs, wrong_inputs}
use Rattle.wc_restart.specs.Ports.{all_among, required}
use Rattle.wc_attempts.specs.Attempts.{at_ports}
use Rattle.wc_attempts.specs.Laws.{in_order}
use Rattle.wc_attempts.proofs.Arguments.{HasAll, IsRequired, at_finds, none_empty}
use Rattle.wc_attempts.proofs.Entries.{put_found, put_passed, same_entries}
use Rattle.wc_attempts.proofs.Fits.{all_at, all_put}
use Rattle.wc_attempts.proofs.PortKinds.{Distinct, among_kind, both_empty, kind_among, required_kind}

-- ---- lists whose members have a property

module _ {A : Type 0} where
  pub all_map : (P Q : A → Type 0) → ((x : A) → P x → Q x) → (xs : List A) → AllByRecursion P xs → AllByRecursion Q xs
  all_map P Q f [] a = tt
  all_map P Q f (x ∷ xs) a = (f x a.0, all_map P Q f xs a.1)

  pub all_both : (P Q R : A → Type 0) → ((x : A) → P x → Q x → R x) → (xs : List A) → AllByRecursion P xs → AllByRecursion Q xs → AllByRecursion R xs
  all_both P Q R f [] a b = tt
  all_both P Q R f (x ∷ xs) a b = (f x a.0 b.0, all_both P Q R f xs a.1 b.1)

  pub all_tested : (t : A → Bool) (xs : List A) → AllByRecursion (λ x. t x ≡ true) xs → list_all t xs ≡ true
  all_tested t [] a = refl
  all_tested t (x ∷ xs) a = ap (λ (b : Bool). b && list_all t xs) a.0 ∙ all_tested t xs a.1

-- what is looked up has what all have
pub found_has : (P : List ℕ × Value → Type 0) (es : Values) (name : List ℕ) (v : Value) → AllByRecursion P es → lookup name es ≡ Some v → P (name, v)
found_has P [] name v a h = absurd (cc)
found_has P (e ∷ es) name v a h = by_name (bytes_eq e.0 name) refl h (λ k. found_has P es name v a.1 k)
  where
    by_name : (b : Bool) → bytes_eq e.0 name ≡ b → (if b then Some e.1 else lookup name es) ≡ Some v → (lookup name es ≡ Some v → P (name, v)) → P (name, v)
    by_name true p k rest =
        let value : e.1 ≡ v = cc in
        subst (λ x. P (name, x)) value (subst (λ n. P (n, e.1)) (same_name e.0 name p) a.0)
    by_name false p k rest = rest k

-- ---- values at ports

-- In their order, each of its port's kind, and one for each port.
pub record GoodFor (ps : List Port) (v : Values) : Type 0 where
  pub ordered : Ascends v
  pub kinds : AllByRecursion (λ e. is_good ps e ≡ true) v
  pub all : HasAll v ps

-- they are their own values at the ports
at_all : (ps : List Port) (v : Values) → AllByRecursion (λ e. is_good ps e ≡ true) v → at_ports ps v ≡ v
at_all ps [] a = refl
at_all ps (e ∷ es) a =
    ap (λ (b : Bool). if b then e ∷ at_ports ps es else at_ports ps es) (kind_among ps e.0 e.1 a.0) ∙ ap (λ (vs : Values). e ∷ vs) (at_all ps es a.1)

pub good_whole : (ps : List Port) (v : Values) → GoodFor ps v → at_ports ps v ≡ v
good_whole ps v g = at_all ps v g.kinds

-- what is taken at ports is at one of them
pub at_named : (ps : List Port) (es : Values) → AllByRecursion (λ e. is_among e.0 (port_names ps) ≡ true) (at_ports ps es)
at_named ps [] = tt
at_named ps (e ∷ es) = by_test (is_among e.0 (port_names ps)) refl (at_named ps es)
  where
    by_test : (b : Bool) → is_among e.0 (port_names ps) ≡ b → AllByRecursion (λ d. is_among d.0 (port_names ps) ≡ true) (at_ports ps es)
        → AllByRecursion (λ d. is_among d.0 (port_names ps) ≡ true) (if b then e ∷ at_ports ps es else at_ports ps es)
    by_test true h rest = (h, rest)
    by_test false h rest = rest

found_in : (ps : List Port) (v : Values) (name : List ℕ) → HasAll v ps → is_among name (port_names ps) ≡ true → (x : Value) × (lookup name v ≡ Some x)
found_in [] v name a h = absurd (cc)
found_in (p ∷ ps) v name a h = by_name (bytes_eq p.name.text name) refl h (λ k. found_in ps v name a.1 k)
  where
    by_name : (b : Bool) → bytes_eq p.name.text name ≡ b → (b || is_among name (port_names ps)) ≡ true → (is_among name (port_names ps) ≡ true → (x : Value) × (lookup name v ≡ Some x))
        → (x : Value) × (lookup name v ≡ Some x)
    by_name true e k rest = (a.0.0, ap (λ n. lookup n v) (sym (same_name p.name.text name e)) ∙ a.0.1)
    by_name false e k rest = rest k

-- values that have all of some ports have those among them
pub has_within : (ps qs : List Port) (v : Values) → HasAll v ps → AllByRecursion (λ q. is_among q.name.text (port_names ps) ≡ true) qs → HasAll v qs
has_within ps [] v a m = tt
has_within ps (q ∷ qs) v a m = (found_in ps v q.name.text a m.0, has_within ps qs v a m.1)

-- and so have those at ports of the values
pub has_at : (ps qs : List Port) (v : Values) → HasAll v qs → AllByRecursion (λ q. is_among q.name.text (port_names ps) ≡ true) qs → HasAll (at_ports ps v) qs
has_at ps [] v a m = tt
has_at ps (q ∷ qs) v a m =
    ((a.0.0, at_finds ps v q.name.text ∙ ap (λ (b : Bool). if b then lookup q.name.text v else None) m.0 ∙ a.0.1), has_at ps qs v a.1 m.1)

-- a job takes what is good for its required ports
pub good_taken : (ps : List Port) (v : Values) → Distinct (port_names ps) → GoodFor (required ps) v → list_all (is_good ps) v ≡ true
good_taken ps v d g =
    all_tested (is_good ps) v
    (all_map (λ e. is_good (required ps) e ≡ true) (λ e. is_good ps e ≡ true)
    (λ e h. ap (λ k. fits_port k e.1) (sym (required_kind ps e.0 d (kind_among (required ps) e.0 e.1 h))) ∙ h) v g.kinds)

-- and a function with ports among these takes those at its own
pub good_given : (ps qs : List Port) (v : Values) → Distinct (port_names ps) → all_among qs ps ≡ true → GoodFor ps v → list_all (is_good qs) (at_ports qs v) ≡ true
good_given ps qs v d a g =
    all_tested (is_good qs) (at_ports qs v)
    (all_both (λ e. is_among e.0 (port_names qs) ≡ true) (λ e. is_good ps e ≡ true) (λ e. is_good qs e ≡ true)
    (λ e m h. ap (λ k. fits_port k e.1) (among_kind qs ps e.0 d a m) ∙ h) (at_ports qs v) (at_named qs v) (all_at (λ e. is_good ps e ≡ true) qs v g.kinds))

-- ---- inputs in their order

pub order_ascends : (v : Values) → Ascends (in_order v)
order_ascends [] = none_empty
order_ascends (e ∷ es) = ascends_put e.0 e.1 (in_order es) (order_ascends es)

pub order_finds : (v : Values) (name : List ℕ) → lookup name v ≡ lookup name (in_order v)
order_finds [] name = refl
order_finds (e ∷ es) name = by_name (bytes_eq e.0 name) refl (order_finds es name)
  where
    by_name : (b : Bool) → bytes_eq e.0 name ≡ b → lookup name es ≡ lookup name (in_order es) → (if b then Some e.1 else lookup name es) ≡ lookup name (put e.0 e.1 (in_order es))
    by_name true h rest = sym (put_found e.0 e.1 (in_order es)) ∙ ap (λ n. lookup n (put e.0 e.1 (in_order es))) (same_name e.0 name h)
    by_name false h rest = rest ∙ sym (put_passed name e.0 e.1 (in_order es) h)

order_keeps : (P : List ℕ × Value → Type 0) (v : Values) → AllByRecursion P v → AllByRecursion P (in_order v)
order_keeps P [] a = tt
order_keeps P (e ∷ es) a = all_put P e.0 e.1 (in_order es) (order_keeps P es a.1) a.0

-- values in their order are as they are
pub in_order_is : (v : Values) → Ascends v → in_order v ≡ v
in_order_is v a = same_entries (in_order v) v (order_ascends v) a (λ name. sym (order_finds v name))

-- ---- inputs that aren't bad

after_some : (ns : List (List ℕ)) (n : List ℕ) → least_after (Some n) ns ≡ None → ⊥
after_some [] n h = absurd (cc)
after_some (m ∷ ns) n h = after_some ns (if before m n then m else n) h

none_least : (ns : List (List ℕ)) → least ns ≡ None → ns ≡ []
none_least [] h = refl
none_least (n ∷ ns) h = absurd (after_some ns n h)

none_wrong : (ps : List Port) (v : Values) → wrong_inputs ps v ≡ [] → AllByRecursion (λ e. is_good ps e ≡ true) v
none_wrong ps [] h = tt
none_wrong ps (e ∷ es) h = by_test (is_good ps e) refl h (λ k. none_wrong ps es k)
  where
    by_test : (b : Bool) → is_good ps e ≡ b → (if b then wrong_inputs ps es else e.0 ∷ wrong_inputs ps es) ≡ []
        → (wrong_inputs ps es ≡ [] → AllByRecursion (λ d. is_good ps d ≡ true) es) → (is_good ps e ≡ true) × AllByRecursion (λ d. is_good ps d ≡ true) es
    by_test true p k rest = (p, rest k)
    by_test false p k rest = absurd (cc)

none_missing : (ps : List Port) (v w : Values) → ((name : List ℕ) → lookup name v ≡ lookup name w) → AllByRecursion IsRequired ps → missing_inputs ps v ≡ [] → HasAll w ps
none_missing [] v w same r h = tt
none_missing (p ∷ ps) v w same r h = by_value p.optional (lookup p.name.text v) r.0 refl h (λ k. none_missing ps v w same r.1 k)
  where
    by_value : (b : Bool) (o : Option Value) → b ≡ false → lookup p.name.text v ≡ o → (if not b && is_none o then p.name.text ∷ missing_inputs ps v else missing_inputs ps v) ≡ []
        → (missing_inputs ps v ≡ [] → HasAll w ps) → HasAll w (p ∷ ps)
    by_value true o q e k rest = absurd (cc)
    by_value false None q e k rest = absurd (cc)
    by_value false (Some x) q e k rest = ((x, sym (same p.name.text) ∙ e), rest k)

-- the inputs that aren't bad are good, in their order
pub order_good : (ps : List Port) (v : Values) → AllByRecursion IsRequired ps → bad_input ps v ≡ None → GoodFor ps (in_order v)
order_good ps v r h =
    let parts = both_empty (wrong_inputs ps v) (missing_inputs ps v) (none_least (wrong_inputs ps v ++ missing_inputs ps v) h) in record {
      ordered = order_ascends v;
      kinds = order_keeps (λ e. is_good ps e ≡ true) v (none_wrong ps v parts.0);
      all = none_missing ps v (in_order v) (order_finds v) r parts.1;
    }
