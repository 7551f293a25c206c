-- Signatures and the ports that they stand for.
use Rattle.std.proofs.Common.{◌≡◌, ℕ, List, [], ◌∷◌, ◌++◌, Bool, true, false, cond, refl, sym, ap, subst, ◌∙◌}
use Rattle.std.specs.Prelude.{◌||◌, not, Option, Some, None, flat_map, if◌then◌else◌, nat_lt, nat_eq}
use Rattle.std.specs.Option.{option_map}
use Rattle.std.specs.BTreeMap.{BTreeMap, insert_entry}
use Rattle.std.specs.Map.{lookup}
use Rattle.std.specs.declared.cmp.Ordering.{Ordering}
use Rattle.std.specs.declared.cmp.Ordering.TheVariants.{Less, Equal, Greater}
use Rattle.std.specs.Ordering.{nat_cmp, is_eq, is_lt, match_ordering, ordering_then, ordering_reverse}
use Rattle.std.specs.Cmp.Lexicographic.{slice_cmp}
use Rattle.std.specs.Str.{bytes_eq}
use Rattle.std.proofs.lemmas.Cmp.{nat_list_eq_equiv, nat_list_cmp_total, nat_cmp_total, tied_itself}
use Rattle.std.proofs.lemmas.Map.Text.{is_eq-slice_cmp}
use Rattle.std.proofs.lemmas.Map.Lookups.{exact_bytes}
use Rattle.std.proofs.lemmas.Slice.Eq.{bytes_eq-Decides}
use Rattle.wc_syntax.specs.declared.definition.Definition.{Definition}
use Rattle.wc_syntax.specs.declared.definition.Port.{Port}
use Rattle.wc_syntax.specs.declared.outline.CallStmt.{CallStmt}
use Rattle.wc_syntax.specs.Findings.{Finding, head_of, is_among, unless, definition_named, required_names, port_missing, missing_port, missing_of, given_ports}
use Rattle.wc_check.specs.declared.calls.Signature.{Signature}
use Rattle.wc_check.specs.Flat.{behind}
use Rattle.wc_check.specs.Least.{Agree, lesser, least_after, stands_before}
use Rattle.wc_check.specs.Signed.{IsSignature, FitsFound, ports_named, AreSignatures}
use Rattle.wc_check.proofs.Leasts.{least_agree, least_joined}
use Rattle.wc_check.proofs.Named.{Key, order}
use Rattle.wc_check.proofs.Repeated.{any_append}

-- ---- a name that is there already
there_already : (xs : List (List ℕ)) (n m : List ℕ) (b : Bool) → bytes_eq n m ≡ b → is_among n xs ≡ true → (is_among m xs || (b || false)) ≡ is_among m xs
there_already xs n m true e h = let same : n ≡ m = (bytes_eq-Decides n m).0 e in let g : is_among m xs ≡ true = subst (λ k. is_among k xs ≡ true) same h in ap (λ b. b || true) g ∙ sym g
there_already xs n m false e h = or_none (is_among m xs)
  where
    or_none : (b : Bool) → (b || false) ≡ b
    or_none true = refl
    or_none false = refl

pub again : (xs : List (List ℕ)) (n : List ℕ) → is_among n xs ≡ true → Agree (xs ++ n ∷ []) xs
again xs n h = λ m. any_append (λ k. bytes_eq k m) xs (n ∷ []) ∙ there_already xs n m (bytes_eq n m) refl h

pub was_there : (added had : Bool) → added ≡ not had → added ≡ false → had ≡ true
was_there added true e h = refl
was_there added false e h = absurd (cc)

-- ---- an entry that is put into a map
test : List ℕ → Key → Bool
test name k = is_eq (slice_cmp nat_cmp name k.items)

apart : (name : List ℕ) (k x : Key) → bytes_eq k.items name ≡ true → is_eq (slice_cmp nat_cmp name x.items) ≡ true → order k x ≡ Equal
apart name k x p q =
    let a : k.items ≡ name = (bytes_eq-Decides k.items name).0 p in
    let b : name ≡ x.items = (bytes_eq-Decides name x.items).0 (sym (is_eq-slice_cmp name x.items) ∙ q) in
    subst (λ y. slice_cmp nat_cmp k.items y ≡ Equal) (a ∙ b) (tied_itself nat_list_cmp_total k.items)

tests : (name : List ℕ) (k : Key) → is_eq (slice_cmp nat_cmp name k.items) ≡ bytes_eq k.items name
tests name k = is_eq-slice_cmp name k.items ∙ nat_list_eq_equiv.symm name k.items

Got : (name : List ℕ) → List (Key × Signature) → Option Signature
Got name es = lookup (λ k. is_eq (slice_cmp nat_cmp name k.items)) es

one_test : {A : Type 0} (a b : Bool) (v w : A) (r : Option A) → a ≡ b → cond a (Some v) r ≡ (if b then Some v else cond a (Some w) r)
one_test true true v w r e = refl
one_test true false v w r e = absurd (cc)
one_test false true v w r e = absurd (cc)
one_test false false v w r e = refl

two_tests : {A : Type 0} (a b : Bool) (v w : A) (r : Option A) → (a ≡ true → b ≡ true → ⊥) → cond a (Some w) (if b then Some v else r) ≡ (if b then Some v else cond a (Some w) r)
two_tests true true v w r h = absurd (h refl refl)
two_tests true false v w r h = refl
two_tests false b v w r h = refl

got_at : (name : List ℕ) (k : Key) (v : Signature) (e : Key × Signature) (es : List (Key × Signature)) (o : Ordering) → order k e.0 ≡ o
    → Got name (insert_entry order es k v) ≡ (if bytes_eq k.items name then Some v else Got name es)
    → Got name (match_ordering o ((k, v) ∷ e ∷ es) ((e.0, v) ∷ es) (e ∷ insert_entry order es k v)) ≡ (if bytes_eq k.items name then Some v else Got name (e ∷ es))
unfolding Got
got_at name k v e es Less p h = ap (λ (b : Bool). cond b (Some v) (Got name (e ∷ es))) (tests name k)
got_at name k v e es Equal p h = one_test (is_eq (slice_cmp nat_cmp name e.0.items)) (bytes_eq k.items name) v e.1 (Got name es) (tests name e.0 ∙ ap (λ n. bytes_eq n name) (sym (exact_bytes k.items e.0.items p)))
got_at name k v e es Greater p h =
    ap (λ (r : Option Signature). cond (is_eq (slice_cmp nat_cmp name e.0.items)) (Some e.1) r) h
    ∙ two_tests (is_eq (slice_cmp nat_cmp name e.0.items)) (bytes_eq k.items name) v e.1 (Got name es) (λ a b. let q : order k e.0 ≡ Equal = apart name k e.0 b a in absurd (cc (p, q)))

got : (name : List ℕ) (k : Key) (v : Signature) (es : List (Key × Signature)) → Got name (insert_entry order es k v) ≡ (if bytes_eq k.items name then Some v else Got name es)
unfolding Got
got name k v [] = ap (λ (b : Bool). cond b (Some v) None) (tests name k)
got name k v (e ∷ es) = got_at name k v e es (order k e.0) refl (got name k v es)

fits_either : (b : Bool) (s : Signature) (d : Definition) (r : Option Signature) (o : Option Definition) → IsSignature s (head_of d).inputs → FitsFound r (option_map (λ e. (head_of e).inputs) o)
    → FitsFound (if b then Some s else r) (option_map (λ e. (head_of e).inputs) (if b then Some d else o))
fits_either true s d r o h f = h
fits_either false s d r o h f = f

pub put_signed : (old new : BTreeMap Key Signature) (k : Key) (s : Signature) (d : Definition) (library : List Definition)
    → new.entries ≡ insert_entry order old.entries k s → k.items ≡ (head_of d).name.text → IsSignature s (head_of d).inputs → AreSignatures old library → AreSignatures new (d ∷ library)
unfolding Got
put_signed old new k s d library e n h all = λ name.
    subst (λ (r : Option Signature). FitsFound r (ports_named name (d ∷ library)))
    (sym (ap (Got name) e ∙ got name k s old.entries ∙ ap (λ t. if bytes_eq t name then Some s else Got name old.entries) n))
    (fits_either (bytes_eq (head_of d).name.text name) s d (Got name old.entries) (definition_named name library) h (all name))

-- ---- what a call gives
-- ports that are a signature's
pub record Signing (s : Signature) (o : Option (List Port)) : Type 0 where
  pub ps : List Port
  pub is : o ≡ Some ps
  pub signed : IsSignature s ps

pub some_ports : (s : Signature) (o : Option (List Port)) → FitsFound (Some s) o → Signing s o
some_ports s None f = absurd f
some_ports s (Some ps) f = record { ps = ps; is = refl; signed = f }

lesser_earlier : (g : Finding) (at : ℕ) (n : List ℕ) → nat_lt g.at at ≡ true → lesser (Some g) (port_missing n at) ≡ Some g
lesser_earlier g at n h = ap (λ (b : Bool). if b then Some (port_missing n at) else Some g) (ap is_lt later)
  where
    less : nat_cmp g.at at ≡ Less
    less = ap (λ (b : Bool). cond b Less (cond (nat_eq g.at at) Equal Greater)) h

    later : ordering_then (nat_cmp at g.at) (ordering_then (nat_cmp 3 g.number) (slice_cmp nat_cmp n g.name)) ≡ Greater
    later = ap (λ (o : Ordering). ordering_then o (ordering_then (nat_cmp 3 g.number) (slice_cmp nat_cmp n g.name))) (nat_cmp_total.antisymm at g.at ∙ ap ordering_reverse less)

unless_earlier : (g : Finding) (at : ℕ) (n : List ℕ) (b : Bool) → nat_lt g.at at ≡ true → least_after (Some g) (unless b (port_missing n at)) ≡ Some g
unless_earlier g at n true h = refl
unless_earlier g at n false h = lesser_earlier g at n h

-- a port that is missing doesn't matter, where something is found before it
pub skipped : (b : Option Finding) (given : List (List ℕ)) (at : ℕ) (ns : List (List ℕ)) → stands_before b at ≡ true → least_after b (flat_map (missing_port given at) ns) ≡ b
skipped None given at ns h = absurd (cc)
skipped (Some g) given at [] h = refl
skipped (Some g) given at (n ∷ ns) h =
    least_joined (Some g) (missing_port given at n) (flat_map (missing_port given at) ns)
    ∙ ap (λ (b : Option Finding). least_after b (flat_map (missing_port given at) ns)) (unless_earlier g at n (is_among n given) h)
    ∙ skipped (Some g) given at ns h

missing_alike : (xs ys : List (List ℕ)) (at : ℕ) → Agree xs ys → (ns : List (List ℕ)) → flat_map (missing_port xs at) ns ≡ flat_map (missing_port ys at) ns
missing_alike xs ys at h [] = refl
missing_alike xs ys at h (n ∷ ns) = λ i. unless (h n i) (port_missing n at) ++ missing_alike xs ys at h ns i

pub missing_skipped : (c : CallStmt) (s : Signature) (o : Option (List Port)) (best : Option Finding) → FitsFound (Some s) o → stands_before best c.at ≡ true → best ≡ least_after best (missing_of c o)
missing_skipped c s o best f h = let p = some_ports s o f in sym (skipped best (given_ports c) c.at (required_names p.ps) h) ∙ ap (λ x. least_after best (missing_of c x)) (sym p.is)

pub missing_some : (c : CallStmt) (s : Signature) (o : Option (List Port)) (given : List (List ℕ)) (best now : Option Finding) → FitsFound (Some s) o → Agree given (given_ports c)
    → now ≡ least_after best (flat_map (missing_port given c.at) (behind s.required.items)) → now ≡ least_after best (missing_of c o)
missing_some c s o given best now f g e =
    let p = some_ports s o f in
    e ∙ ap (least_after best) (missing_alike given (given_ports c) c.at g (behind s.required.items))
    ∙ least_agree best (missing_port (given_ports c) c.at) (behind s.required.items) (required_names p.ps) p.signed.required
    ∙ ap (λ x. least_after best (missing_of c x)) (sym p.is)
