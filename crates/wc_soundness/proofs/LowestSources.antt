-- A lowest source is there, or none.
use Rattle.std.proofs.Common.{inl, inr, ◌≡◌, ◌⊎◌, ℕ, ◌+◌, ◌<◌, Bool, true, false, List, [], ◌∷◌, Option, Some, None, refl, sym, ap, ◌∙◌, arith}
use Rattle.std.specs.Prelude.{All, nat_lt}
use Rattle.std.specs.Str.{bytes_eq}
use Rattle.std.proofs.lemmas.Bool.{cases_order, lt-ltb, ltb-true}
use Rattle.std.proofs.lemmas.List.Elements.{All-cons, All-head, All-nil, All-tail, All-weaker}
use Rattle.std.proofs.lemmas.Slice.Eq.{bytes_eq-Decides}
use Rattle.wc_value.specs.declared.process.ProcessState.{ProcessState}
use Rattle.wc_value.specs.declared.process.ProcessState.TheVariants as state
use Rattle.wc_value.specs.declared.value.Value.{Value}
use Rattle.wc_syntax.specs.Printing.{printed_definition}
use Rattle.wc_syntax.specs.declared.definition.Definition.{Definition}
use Rattle.wc_state.specs.declared.record.ProcessRecord.{ProcessRecord}
use Rattle.wc_expression.specs.Equality.{equal}
use Rattle.wc_expression.proofs.Equals.{equal_is}
use Rattle.wc_semantics.specs.Rules.{Values}
use Rattle.wc_world.specs.World.{World}
use Rattle.wc_world.specs.Consistent.{IsConsistent}
use Rattle.wc_world.specs.Records.{find_record, is_calculation}
use Rattle.wc_world.proofs.ReachedLists.{unique}
use Rattle.wc_machine.specs.Ends.{TakesSource}
use Rattle.wc_machine.specs.Recorded.{its_definition, recorded_inputs}
use Rattle.wc_machine.specs.Sources.{HaveEqualKeys, IsLowestSource, IsSourceFor, IsValidSource, marks}
use Rattle.wc_soundness.specs.ListLaws.{SourcesAreThere}

-- it holds, or it doesn't
abbrev Known : Type 0 → Type 0
Known A = A ⊎ (A → ⊥)

both_known : {A B : Type 0} → Known A → Known B → Known (A × B)
both_known (inl a) (inl b) = inl (a, b)
both_known (inl a) (inr n) = inr (λ p. n p.1)
both_known (inr n) o = inr (λ p. n p.0)

-- ---- inputs

test_known : {A : Type 0} (b : Bool) → (b ≡ true → A) → (A → b ≡ true) → Known A
test_known true holds back = inl (holds refl)
test_known false holds back = inr (λ a. let e = back a in cc e)

texts_known : (a b : List ℕ) → Known (a ≡ b)
texts_known a b = let d = bytes_eq-Decides a b in test_known (bytes_eq a b) d.0 d.1

values_known : (a b : Value) → Known (a ≡ b)
values_known a b = let d = equal_is a b in test_known (equal a b) d.0 d.1

inputs_known : (xs ys : Values) → Known (xs ≡ ys)
inputs_known [] [] = inl refl
inputs_known [] (y ∷ ys) = inr (λ e. cc e)
inputs_known (x ∷ xs) [] = inr (λ e. cc e)
inputs_known (x ∷ xs) (y ∷ ys) = by (texts_known x.0 y.0) (values_known x.1 y.1) (inputs_known xs ys)
  where
    first : x ∷ xs ≡ y ∷ ys → x ≡ y
    first e = cc

    rest : x ∷ xs ≡ y ∷ ys → xs ≡ ys
    rest e = cc

    by : Known (x.0 ≡ y.0) → Known (x.1 ≡ y.1) → Known (xs ≡ ys) → Known (x ∷ xs ≡ y ∷ ys)
    by (inl a) (inl b) (inl c) = inl (λ i. (a i, b i) ∷ c i)
    by (inr n) o p = inr (λ e. n (ap (λ (z : List ℕ × Value). z.0) (first e)))
    by (inl a) (inr n) p = inr (λ e. n (ap (λ (z : List ℕ × Value). z.1) (first e)))
    by (inl a) (inl b) (inr n) = inr (λ e. n (rest e))

module _ (w : World) (batch : ℕ) (p : ProcessRecord) where
  -- ---- equal keys

  keys_by : (q : ProcessRecord) (o m : Option Definition) → its_definition w p ≡ o → its_definition w q ≡ m → Known (HaveEqualKeys w p q)
  keys_by q None m a b = inr (λ k. let e = k.is_one in cc (a, e))
  keys_by q (Some d) None a b = inr (λ k. let e = k.is_other in cc (b, e))
  keys_by q (Some d) (Some f) a b = by (both_known (texts_known (printed_definition d) (printed_definition f)) (inputs_known (recorded_inputs w p.node) (recorded_inputs w q.node)))
    where
      same : (x y : Definition) → Some x ≡ Some y → x ≡ y
      same x y e = cc

      by : Known ((printed_definition d ≡ printed_definition f) × (recorded_inputs w p.node ≡ recorded_inputs w q.node)) → Known (HaveEqualKeys w p q)
      by (inl h) = inl (record { one = d; other = f; is_one = a; is_other = b; texts = h.0; inputs = h.1 })
      by (inr n) = inr (λ k. n (
        ap printed_definition (same d k.one (sym a ∙ k.is_one)) ∙ k.texts ∙ ap printed_definition (sym (same f k.other (sym b ∙ k.is_other))),
        k.inputs,
      ))

  keys_known : (q : ProcessRecord) → Known (HaveEqualKeys w p q)
  keys_known q = keys_by q (its_definition w p) (its_definition w q) refl refl

  -- ---- valid sources

  less_known : (n m : ℕ) → Known (n < m)
  less_known n m = test_known (nat_lt n m) (ltb-true n m) (lt-ltb n m)

  false_known : (b : Bool) → Known (b ≡ false)
  false_known true = inr (λ e. cc e)
  false_known false = inl refl

  finished_by : (q : ProcessRecord) (n : ℕ) (d : Definition) → is_calculation q.kind ≡ true → q.state ≡ state.Finished n → its_definition w q ≡ Some d → Known (IsValidSource w batch q)
  finished_by q n d calculates is defined = by (false_known (marks d n)) (less_known 0 q.ended) (less_known q.ended batch)
    where
      same_status : (m : ℕ) → state.Finished n ≡ state.Finished m → n ≡ m
      same_status m e = cc

      same : (x y : Definition) → Some x ≡ Some y → x ≡ y
      same x y e = cc

      by : Known (marks d n ≡ false) → Known (0 < q.ended) → Known (q.ended < batch) → Known (IsValidSource w batch q)
      by (inl a) (inl b) (inl c) = inl (record {
        calculates = calculates;
        status = n;
        finished = is;
        definition = d;
        is_definition = defined;
        unmarked = a;
        ended = b;
        earlier = c;
      })
      by (inr never) o u = inr (λ v. never ((λ i. marks (same d v.definition (sym defined ∙ v.is_definition) i) (same_status v.status (sym is ∙ v.finished) i)) ∙ v.unmarked))
      by (inl a) (inr never) u = inr (λ v. never v.ended)
      by (inl a) (inl b) (inr never) = inr (λ v. never v.earlier)

  valid_by : (q : ProcessRecord) (b : Bool) (s : ProcessState) (o : Option Definition) → is_calculation q.kind ≡ b → q.state ≡ s → its_definition w q ≡ o
      → Known (IsValidSource w batch q)
  valid_by q false s o a b c = inr (λ v. let e = v.calculates in cc (a, e))
  valid_by q true (state.Finished n) (Some d) a b c = finished_by q n d a b c
  valid_by q true (state.Finished n) None a b c = inr (λ v. let e = v.is_definition in cc (c, e))
  valid_by q true state.Created o a b c = inr (λ v. let e = v.finished in cc (b, e))
  valid_by q true state.Running o a b c = inr (λ v. let e = v.finished in cc (b, e))
  valid_by q true state.Waiting o a b c = inr (λ v. let e = v.finished in cc (b, e))
  valid_by q true (state.Excepted x) o a b c = inr (λ v. let e = v.finished in cc (b, e))
  valid_by q true state.Killed o a b c = inr (λ v. let e = v.finished in cc (b, e))

  source_known : (q : ProcessRecord) → Known (IsSourceFor w batch p q)
  source_known q = both_known (valid_by q (is_calculation q.kind) q.state (its_definition w q) refl refl refl) (keys_known q)

  -- ---- the lowest

  abbrev IsFound : ProcessRecord → Type 0
  IsFound q = find_record q.node w.records ≡ Some q

  abbrev NoneBelow : ℕ → ProcessRecord → Type 0
  NoneBelow n q = q.node < n → IsSourceFor w batch p q → ⊥

  record IsLeast (rs : List ProcessRecord) : Type 0 where
    it : ProcessRecord
    found : IsFound it
    source : IsSourceFor w batch p it
    least : All (NoneBelow it.node) rs

  abbrev NoSource : ProcessRecord → Type 0
  NoSource q = IsSourceFor w batch p q → ⊥

  lower : (n m : ℕ) (rs : List ProcessRecord) → m < n → All (NoneBelow n) rs → All (NoneBelow m) rs
  lower n m rs lt h = All-weaker (NoneBelow n) (NoneBelow m) (λ q none small. none (omega (arith, lt, small))) rs h

  none_lower : (m : ℕ) (rs : List ProcessRecord) → All NoSource rs → All (NoneBelow m) rs
  none_lower m rs h = All-weaker NoSource (NoneBelow m) (λ q none small. none) rs h

  not_below : (x : ProcessRecord) → NoneBelow x.node x
  not_below x lt = absurd (omega (arith, lt))

  least_of : (rs : List ProcessRecord) → All IsFound rs → All NoSource rs ⊎ IsLeast rs
  least_of [] h = inl (All-nil NoSource)
  least_of (x ∷ xs) h = by (source_known x) (least_of xs (All-tail IsFound x xs h))
    where
      here : IsSourceFor w batch p x → All (NoneBelow x.node) xs → IsLeast (x ∷ xs)
      here is rest = record { it = x; found = All-head IsFound x xs h; source = is; least = All-cons (NoneBelow x.node) x xs (not_below x) rest }

      by : Known (IsSourceFor w batch p x) → All NoSource xs ⊎ IsLeast xs → All NoSource (x ∷ xs) ⊎ IsLeast (x ∷ xs)
      by (inr never) (inl none) = inl (All-cons NoSource x xs never none)
      by (inr never) (inr l) = inr (record { it = l.it; found = l.found; source = l.source; least = All-cons (NoneBelow l.it.node) x xs (λ lt. never) l.least })
      by (inl is) (inl none) = inr (here is (none_lower x.node xs none))
      by (inl is) (inr l) = elim (cases_order x.node l.it.node) [
        | inl e ↦ inr (record { it = l.it; found = l.found; source = l.source; least = All-cons (NoneBelow l.it.node) x xs (λ lt. absurd (omega (arith, e, lt))) l.least })
        | inr o ↦ elim o [
          | inl lt ↦ inr (here is (lower l.it.node x.node xs lt l.least))
          | inr gt ↦ inr (record { it = l.it; found = l.found; source = l.source; least = All-cons (NoneBelow l.it.node) x xs (λ lt. absurd (omega (arith, gt, lt))) l.least })
        ]
      ]

  lowest : IsConsistent w → (source : Option ℕ) × IsLowestSource w batch p source
  lowest c = by (least_of w.records (unique 1 w.nodes w.records c.numbered))
    where
      by : All NoSource w.records ⊎ IsLeast w.records → (source : Option ℕ) × IsLowestSource w batch p source
      by (inl none) = (None, none)
      by (inr l) = (Some l.it.node, ((l.it, l.found, l.source), l.least))

pub sources_are_there : SourcesAreThere
sources_are_there w r c = by r.caching refl
  where
    by : (b : Bool) → r.caching ≡ b → (source : Option ℕ) × TakesSource w r source
    by true is = let l = lowest w (w.batches + 1) r c in (l.0, record { on = λ e. l.1; off = λ e. absurd (cc (e, is)) })
    by false is = (None, record { on = λ e. absurd (cc (e, is)); off = λ e. refl })
