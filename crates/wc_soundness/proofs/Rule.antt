-- The cache rule is stable: what ends later is no source for an earlier start.
use Rattle.std.proofs.Common.{◌≡◌, ℕ, ◌+◌, ◌<◌, ◌≤◌, Bool, true, false, Option, Some, None, get_or, refl, sym, ap, subst, ◌∙◌, arith}
use Rattle.wc_syntax.specs.declared.definition.Definition.{Definition}
use Rattle.wc_state.specs.declared.record.ProcessRecord.{ProcessRecord}
use Rattle.wc_world.specs.World.{World}
use Rattle.wc_world.specs.Consistent.{Stands, IsConsistent}
use Rattle.wc_world.specs.Fits.{is_of_kind}
use Rattle.wc_world.specs.Records.{find_record, has_ended, is_calculation, definition_in}
use Rattle.wc_world.proofs.FoundRecords.{found_holds}
use Rattle.wc_world.proofs.ReachedLists.{AreUnique, unique, found_node, definition_grown}
use Rattle.wc_machine.specs.Continues.{Carries, Continues}
use Rattle.wc_machine.specs.Ends.{TakesSource}
use Rattle.wc_machine.specs.Recorded.{its_definition, recorded_inputs}
use Rattle.wc_machine.specs.Sources.{IsSourceFor, IsLowestSource, KeepsRule, KeepsCacheRule}
use Rattle.wc_soundness.specs.Starts.{EndsAreLater, StartsByRule, waits, stays, starts}
use Rattle.wc_soundness.specs.CachingLaws.{RuleIsStable}

pub defined_some : (o : Option Definition) (r : ProcessRecord) → is_of_kind r.kind o ≡ true → (d : Definition) × (o ≡ Some d)
defined_some None r h = absurd (cc)
defined_some (Some d) r h = (d, refl)

module _ (v w : World) (c : IsConsistent v) (on : Continues v w) where
  -- ---- what stays of a process that was there

  pub runs_same : (q r : ProcessRecord) → find_record q.node v.records ≡ Some q → Carries q r → its_definition w r ≡ its_definition v q
  runs_same q r found h =
      let stands : Stands v q = found_holds (Stands v) q.node v.records q c.records found in
      let d = defined_some (definition_in v.libraries q.library q.definition) q stands.defined in
      (λ i. definition_in (on.libraries.1 i) (h.library i) (h.definition i))
      ∙ definition_grown v.libraries on.libraries.0 q.library q.definition d.0 d.1 ∙ sym d.1

  pub inputs_same : (q r : ProcessRecord) → find_record q.node v.records ≡ Some q → Carries q r → recorded_inputs w r.node ≡ recorded_inputs v q.node
  inputs_same q r found h =
      ap (recorded_inputs w) h.node ∙ found_holds (λ x. recorded_inputs w x.node ≡ recorded_inputs v x.node) q.node v.records q on.inputs found

  pub carried_to : (q : ProcessRecord) → find_record q.node v.records ≡ Some q → (s : ProcessRecord) × (find_record q.node w.records ≡ Some s) × Carries q s
  carried_to q found = found_holds (λ x. (s : ProcessRecord) × (find_record x.node w.records ≡ Some s) × Carries x s) q.node v.records q on.records found

  -- what has ended is the same
  pub ended_found : (q : ProcessRecord) → find_record q.node v.records ≡ Some q → has_ended q.state ≡ true → find_record q.node w.records ≡ Some q
  ended_found q found over = let s = carried_to q found in s.1 ∙ ap (λ (x : ProcessRecord). Some x) (s.2.ended over)

  pub carries_itself : (q : ProcessRecord) → find_record q.node v.records ≡ Some q → has_ended q.state ≡ true → Carries q q
  carries_itself q found over = let s = carried_to q found in subst (Carries q) (s.2.ended over) s.2

  -- ---- sources

  module _ (later : EndsAreLater v w) (batch : ℕ) (le : batch ≤ v.batches + 1) (p r : ProcessRecord) (there : find_record p.node v.records ≡ Some p) (carried : Carries p r) where
    source_after : (q : ProcessRecord) → find_record q.node v.records ≡ Some q → IsSourceFor v batch p q → (find_record q.node w.records ≡ Some q) × IsSourceFor w batch r q
    source_after q found h =
        let over : has_ended q.state ≡ true = ap has_ended h.0.finished in
        let itself = carries_itself q found over in
        let d = runs_same q q found itself in (
          ended_found q found over,
          (
            record {
              calculates = h.0.calculates;
              status = h.0.status;
              finished = h.0.finished;
              definition = h.0.definition;
              is_definition = d ∙ h.0.is_definition;
              unmarked = h.0.unmarked;
              ended = h.0.ended;
              earlier = h.0.earlier;
            },
            record {
              one = h.1.one;
              other = h.1.other;
              is_one = runs_same p r there carried ∙ h.1.is_one;
              is_other = d ∙ h.1.is_other;
              texts = h.1.texts;
              inputs = inputs_same p r there carried ∙ h.1.inputs ∙ sym (inputs_same q q found itself);
            },
          ),
        )

    source_before : (q : ProcessRecord) → find_record q.node w.records ≡ Some q → IsSourceFor w batch r q → (find_record q.node v.records ≡ Some q) × IsSourceFor v batch p q
    source_before q found h =
        let lt : q.ended < batch = h.0.earlier in
        let here : find_record q.node v.records ≡ Some q = later q found h.0.ended (omega arith) in
        let itself = carries_itself q here (ap has_ended h.0.finished) in
        let d = sym (runs_same q q here itself) in (
          here,
          (
            record {
              calculates = h.0.calculates;
              status = h.0.status;
              finished = h.0.finished;
              definition = h.0.definition;
              is_definition = d ∙ h.0.is_definition;
              unmarked = h.0.unmarked;
              ended = h.0.ended;
              earlier = h.0.earlier;
            },
            record {
              one = h.1.one;
              other = h.1.other;
              is_one = sym (runs_same p r there carried) ∙ h.1.is_one;
              is_other = d ∙ h.1.is_other;
              texts = h.1.texts;
              inputs = sym (inputs_same p r there carried) ∙ h.1.inputs ∙ inputs_same q q here itself;
            },
          ),
        )

    pub lowest_stays : IsConsistent w → (source : Option ℕ) → IsLowestSource v batch p source → IsLowestSource w batch r source
    lowest_stays cw None none = λ i d lt is.
        let u : AreUnique w.records = unique 1 w.nodes w.records cw.numbered in
        let q = get_or w.records i d in
        let b = source_before q (u i d lt) is in
        found_holds (λ x. ¬ IsSourceFor v batch p x) q.node v.records q none b.0 b.1
    lowest_stays cw (Some source) h =
        let u : AreUnique w.records = unique 1 w.nodes w.records cw.numbered in
        let q = h.0.0 in
        let number : q.node ≡ source = found_node source v.records q h.0.1 in
        let a = source_after q (ap (λ (n : ℕ). find_record n v.records) number ∙ h.0.1) h.0.2 in (
          (q, ap (λ (n : ℕ). find_record n w.records) (sym number) ∙ a.0, a.1),
          λ i d lt less is.
              let x = get_or w.records i d in
              let b = source_before x (u i d lt) is in
              found_holds (λ y. y.node < source → ¬ IsSourceFor v batch p y) x.node v.records x h.1 b.0 less b.1,
        )

  -- ---- the rule

  started_low : (q : ProcessRecord) → find_record q.node v.records ≡ Some q → q.started ≤ v.batches
  started_low q found = (found_holds (Stands v) q.node v.records q c.records found).started

  module _ (later : EndsAreLater v w) (cw : IsConsistent w) (rule : KeepsCacheRule v) where
    rule_stays : (r : ProcessRecord) → StartsByRule v r → KeepsRule w r
    rule_stays r (waits never none) = (λ calculates caching started. absurd (started never), λ off. none, λ zero. none, λ other. none)
    rule_stays r (stays q found h at from) =
        let k : KeepsRule v q = found_holds (KeepsRule v) q.node v.records q rule found in
        let le : q.started ≤ v.batches = started_low q found in (
          (λ calculates caching started.
              let before : IsLowestSource v q.started q q.cached_from = k.0 (ap is_calculation (sym h.kind) ∙ calculates) (sym h.caching ∙ caching) (λ e. started (at ∙ e)) in
              let after : IsLowestSource w q.started r q.cached_from = lowest_stays later q.started (omega arith) q r found h cw q.cached_from before in
              subst (λ (n : ℕ). IsLowestSource w n r r.cached_from) (sym at) (subst (IsLowestSource w q.started r) (sym from) after)),
          (λ off. from ∙ k.1 (sym h.caching ∙ off)),
          (λ never. from ∙ k.2 (sym at ∙ never)),
          (λ other. from ∙ k.3 (ap is_calculation (sym h.kind) ∙ other)),
        )
    rule_stays r (starts q found h at takes none) = (
      (λ calculates caching started.
          let t : TakesSource v q r.cached_from = takes (ap is_calculation (sym h.kind) ∙ calculates) in
          let before : IsLowestSource v (v.batches + 1) q r.cached_from = t.on (sym h.caching ∙ caching) in
          let le : v.batches + 1 ≤ v.batches + 1 = omega arith in
          subst (λ (n : ℕ). IsLowestSource w n r r.cached_from) (sym at) (lowest_stays later (v.batches + 1) le q r found h cw r.cached_from before)),
      (λ off. by_kind off (is_calculation q.kind) refl),
      (λ never. absurd (let e : v.batches + 1 ≡ 0 = sym at ∙ never in omega arith)),
      (λ other. none (ap is_calculation (sym h.kind) ∙ other)),
    )
      where
        by_kind : r.caching ≡ false → (b : Bool) → is_calculation q.kind ≡ b → r.cached_from ≡ None
        by_kind off true is = (takes is).off (sym h.caching ∙ off)
        by_kind off false is = none is

-- The rule, kept by each process that starts by it.
pub rule_is_stable : RuleIsStable
rule_is_stable v w s cw on later each i d lt = rule_stays v w s.consistent on later cw s.sources (get_or w.records i d) (each i d lt)
