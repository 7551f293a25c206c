-- The arguments of a call, where each port is given what one list of values has for it.
use Rattle.std.proofs.Common.{◌≡◌, ℕ, Bool, true, false, Option, Some, None, List, [], ◌∷◌, map, refl, sym, ap, ◌∙◌}
use Rattle.std.specs.Prelude.{if◌then◌else◌, not, is_none, ◌&&◌, ◌||◌}
use Rattle.std.specs.List.{AllByRecursion}
use Rattle.std.specs.List.Sorted.{IsStrictlySortedBy}
use Rattle.std.specs.Map.{keys_of}
use Rattle.std.specs.Ordering.{nat_cmp}
use Rattle.std.specs.declared.cmp.Ordering.TheVariants.{Less}
use Rattle.std.specs.Cmp.Lexicographic.{slice_cmp}
use Rattle.std.specs.Str.{bytes_eq}
use Rattle.wc_value.specs.Ascending.{Ascends, lookup, put}
use Rattle.wc_value.specs.declared.process.Reason.TheVariants.{NoOutput}
use Rattle.wc_value.specs.declared.value.Value.{Value}
use Rattle.wc_value.proofs.Puts.{same_name, ascends_put}
use Rattle.wc_syntax.specs.Findings.{is_among, port_names}
use Rattle.wc_syntax.specs.declared.definition.Port.{Port}
use Rattle.wc_syntax.specs.declared.expression.Expr.{Expr}
use Rattle.wc_state.specs.declared.environment.Env.{Env}
use Rattle.wc_expression.specs.declared.outcome.Outcome.{Outcome}
use Rattle.wc_expression.specs.declared.outcome.Outcome.TheVariants.{Gives, Faults}
use Rattle.wc_expression.specs.Outcomes.{◌>>=◌, found}
use Rattle.wc_semantics.specs.Outcomes.{lacks}
use Rattle.wc_semantics.specs.Rules.{Values}
use Rattle.wc_semantics.specs.Statements.{argument, arguments}
use Rattle.wc_restart.specs.Pieces.{given}
use Rattle.wc_attempts.specs.Attempts.{at_ports}
use Rattle.wc_attempts.proofs.Entries.{put_found, put_passed, same_entries}

-- ---- what is gathered

abbrev name_of : Port → List ℕ
name_of p = p.name.text

-- the value for each port, put one after another; the first that isn't there is no output
abbrev pub gathered : List Port → Values → Values → Outcome Values
gathered [] v acc = Gives acc
gathered (p ∷ ps) v acc = found NoOutput (lookup (name_of p) v) >>= (λ x. gathered ps v (put (name_of p) x acc))

-- each port is given what these values have for it
abbrev pub GivenFrom : (List ℕ → Expr) → Env → Values → List Port → Type 0
GivenFrom source env v = AllByRecursion (λ p. argument (source (name_of p)) env ≡ found NoOutput (lookup (name_of p) v))

pub arguments_gathered : (source : List ℕ → Expr) (env : Env) (v : Values) (ps : List Port) (acc : Values) → GivenFrom source env v ps
    → arguments (map (given source) ps) env acc ≡ gathered ps v acc
arguments_gathered source env v [] acc h = refl
arguments_gathered source env v (p ∷ ps) acc h =
    ap (λ o. o >>= (λ x. arguments (map (given source) ps) env (put (name_of p) x acc))) h.0 ∙ by_value (lookup (name_of p) v) (λ x. arguments_gathered source env v ps (put (name_of p) x acc) h.1)
  where
    by_value : (o : Option Value) → ((x : Value) → arguments (map (given source) ps) env (put (name_of p) x acc) ≡ gathered ps v (put (name_of p) x acc))
        → (found NoOutput o >>= (λ x. arguments (map (given source) ps) env (put (name_of p) x acc))) ≡ (found NoOutput o >>= (λ x. gathered ps v (put (name_of p) x acc)))
    by_value None rest = refl
    by_value (Some x) rest = rest x

-- ---- a port that isn't there

pub passes : (optional rest : Bool) → ((not optional && false) || rest) ≡ rest
passes true rest = refl
passes false rest = refl

pub gathered_lacks : (ps : List Port) (v acc : Values) → lacks ps v ≡ true → gathered ps v acc ≡ Faults NoOutput
gathered_lacks [] v acc h = absurd (cc)
gathered_lacks (p ∷ ps) v acc h = by_value (lookup (name_of p) v) h (λ x k. gathered_lacks ps v (put (name_of p) x acc) k)
  where
    by_value : (o : Option Value) → ((not p.optional && is_none o) || lacks ps v) ≡ true
        → ((x : Value) → lacks ps v ≡ true → gathered ps v (put (name_of p) x acc) ≡ Faults NoOutput)
        → (found NoOutput o >>= (λ x. gathered ps v (put (name_of p) x acc))) ≡ Faults NoOutput
    by_value None k rest = refl
    by_value (Some x) k rest = rest x (sym (passes p.optional (lacks ps v)) ∙ k)

-- ---- all ports are there

abbrev pub IsRequired : Port → Type 0
IsRequired p = p.optional ≡ false

-- there is a value for each port
abbrev pub HasAll : Values → List Port → Type 0
HasAll v = AllByRecursion (λ p. (x : Value) × (lookup (name_of p) v ≡ Some x))

lacks_none : (optional rest : Bool) → optional ≡ false → ((not optional && true) || rest) ≡ false → ⊥
lacks_none true rest p h = absurd (cc)
lacks_none false rest p h = absurd (cc)

-- values that lack no required port
pub has_all : (ps : List Port) (v : Values) → AllByRecursion IsRequired ps → lacks ps v ≡ false → HasAll v ps
has_all [] v r h = tt
has_all (p ∷ ps) v r h = by_value (lookup (name_of p) v) refl h (λ k. has_all ps v r.1 k)
  where
    by_value : (o : Option Value) → lookup (name_of p) v ≡ o → ((not p.optional && is_none o) || lacks ps v) ≡ false → (lacks ps v ≡ false → HasAll v ps) → HasAll v (p ∷ ps)
    by_value None e k rest = absurd (lacks_none p.optional (lacks ps v) r.0 k)
    by_value (Some x) e k rest = ((x, e), rest (sym (passes p.optional (lacks ps v)) ∙ k))

-- What is gathered ascends, and has for each port what the values have.
pub record Filled (ps : List Port) (v acc full : Values) : Type 0 where
  pub gathers : gathered ps v acc ≡ Gives full
  pub ascends : Ascends full
  pub finds : (k : List ℕ) → lookup k full ≡ (if is_among k (port_names ps) then lookup k v else lookup k acc)

-- what is looked up once one more is put, which the values have
finds_at : (k name : List ℕ) (x : Value) (v acc : Values) (same among : Bool) → bytes_eq name k ≡ same → lookup name v ≡ Some x
    → (if among then lookup k v else lookup k (put name x acc)) ≡ (if same || among then lookup k v else lookup k acc)
finds_at k name x v acc true true p q = refl
finds_at k name x v acc true false p q =
    let s : name ≡ k = same_name name k p in
    ap (λ n. lookup n (put name x acc)) (sym s) ∙ put_found name x acc ∙ sym q ∙ ap (λ n. lookup n v) s
finds_at k name x v acc false true p q = refl
finds_at k name x v acc false false p q = put_passed k name x acc p

pub gathers_all : (ps : List Port) (v acc : Values) → HasAll v ps → Ascends acc → (full : Values) × Filled ps v acc full
gathers_all [] v acc h a = (acc, record { gathers = refl; ascends = a; finds = λ k. refl })
gathers_all (p ∷ ps) v acc h a =
    let x : Value = h.0.0 in
    let e : lookup (name_of p) v ≡ Some x = h.0.1 in
    let rest : (full : Values) × Filled ps v (put (name_of p) x acc) full = gathers_all ps v (put (name_of p) x acc) h.1 (ascends_put (name_of p) x acc a) in (
      rest.0,
      record {
        gathers = ap (λ o. found NoOutput o >>= (λ x. gathered ps v (put (name_of p) x acc))) e ∙ rest.1.gathers;
        ascends = rest.1.ascends;
        finds = λ k. rest.1.finds k ∙ finds_at k (name_of p) x v acc (bytes_eq (name_of p) k) (is_among k (port_names ps)) refl e;
      },
    )

-- ---- the values at ports

pub at_finds : (ps : List Port) (v : Values) (k : List ℕ) → lookup k (at_ports ps v) ≡ (if is_among k (port_names ps) then lookup k v else None)
at_finds ps [] k = by_either (is_among k (port_names ps)) None
  where
    by_either : (b : Bool) (o : Option Value) → o ≡ (if b then o else o)
    by_either true o = refl
    by_either false o = refl
at_finds ps (e ∷ es) k = by_both (is_among e.0 (port_names ps)) (bytes_eq e.0 k) refl refl (at_finds ps es k)
  where
    by_both : (among same : Bool) → is_among e.0 (port_names ps) ≡ among → bytes_eq e.0 k ≡ same → lookup k (at_ports ps es) ≡ (if is_among k (port_names ps) then lookup k es else None)
        → lookup k (if among then e ∷ at_ports ps es else at_ports ps es) ≡ (if is_among k (port_names ps) then (if same then Some e.1 else lookup k es) else None)
    by_both true true p q rest =
        ap (λ (b : Bool). if b then Some e.1 else lookup k (at_ports ps es)) q
        ∙ sym (ap (λ (b : Bool). if b then Some e.1 else None) (ap (λ n. is_among n (port_names ps)) (sym (same_name e.0 k q)) ∙ p))
    by_both true false p q rest = ap (λ (b : Bool). if b then Some e.1 else lookup k (at_ports ps es)) q ∙ rest
    by_both false true p q rest =
        let no : is_among k (port_names ps) ≡ false = ap (λ n. is_among n (port_names ps)) (sym (same_name e.0 k q)) ∙ p in
        rest ∙ ap (λ (b : Bool). if b then lookup k es else None) no ∙ sym (ap (λ (b : Bool). if b then Some e.1 else None) no)
    by_both false false p q rest = rest

abbrev Below : List ℕ → List (List ℕ) → Type 0
Below name = AllByRecursion (λ k. slice_cmp nat_cmp name k ≡ Less)

at_below : (ps : List Port) (name : List ℕ) (v : Values) → Below name (keys_of v) → Below name (keys_of (at_ports ps v))
at_below ps name [] a = tt
at_below ps name (e ∷ es) a = by_either (is_among e.0 (port_names ps)) (at_below ps name es a.1)
  where
    by_either : (b : Bool) → Below name (keys_of (at_ports ps es)) → Below name (keys_of (if b then e ∷ at_ports ps es else at_ports ps es))
    by_either true rest = (a.0, rest)
    by_either false rest = rest

pub at_ascends : (ps : List Port) (v : Values) → Ascends v → Ascends (at_ports ps v)
unfolding IsStrictlySortedBy
at_ascends ps [] a = a
at_ascends ps (e ∷ es) a = by_either (is_among e.0 (port_names ps)) (at_ascends ps es a.1)
  where
    by_either : (b : Bool) → Ascends (at_ports ps es) → Ascends (if b then e ∷ at_ports ps es else at_ports ps es)
    by_either true rest = (at_below ps e.0 es a.0, rest)
    by_either false rest = rest

pub none_empty : Ascends {T = Value} []
unfolding IsStrictlySortedBy
none_empty = tt

-- The arguments are the values at the ports.
pub gathered_all : (ps : List Port) (v : Values) → HasAll v ps → Ascends v → gathered ps v [] ≡ Gives (at_ports ps v)
gathered_all ps v h a =
    let made : (full : Values) × Filled ps v [] full = gathers_all ps v [] h none_empty in
    let same : made.0 ≡ at_ports ps v = same_entries made.0 (at_ports ps v) made.1.ascends (at_ascends ps v a) (λ k. made.1.finds k ∙ sym (at_finds ps v k)) in
    made.1.gathers ∙ ap (λ (vs : Values). Gives vs) same
