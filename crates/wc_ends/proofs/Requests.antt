-- The request of a process stays, whether it gives one or not.
use Rattle.std.proofs.Common.{◌≡◌, List, Option, Some, None, refl, sym, ap, subst, ◌∙◌}
use Rattle.std.specs.Prelude.{option_and_then}
use Rattle.wc_syntax.specs.Findings.{definition_named}
use Rattle.wc_syntax.specs.declared.definition.Definition.{Definition}
use Rattle.wc_state.specs.declared.record.ProcessRecord.{ProcessRecord}
use Rattle.wc_world.specs.Records.{find_record, library_at}
use Rattle.wc_world.specs.World.{Known, World}
use Rattle.wc_world.proofs.FoundRecords.{found_holds}
use Rattle.wc_machine.specs.Continues.{Carries, Continues}
use Rattle.wc_machine.specs.Recorded.{recorded_inputs, recorded_request, request_by}
use Rattle.wc_machine.specs.Sound.{IsFitting, IsSound, TakesItsInputs}
use Rattle.wc_machine.proofs.Frames.{library_stays}

module _ (v w : World) (s : IsSound v) (c : Continues v w) (r t : ProcessRecord) (found : find_record r.node v.records ≡ Some r) (there : find_record r.node w.records ≡ Some t) where
  pub carried : Carries r t
  carried =
      let h = found_holds (λ x. (y : ProcessRecord) × (find_record x.node w.records ≡ Some y) × Carries x y) r.node v.records r c.records found in
      let again : Some h.0 ≡ Some t = sym h.1 ∙ there in
      let same : h.0 ≡ t = cc in
      subst (Carries r) same h.2

  fitting : IsFitting v r
  fitting = found_holds (IsFitting v) r.node v.records r s.records found

  its_library : (l : List Definition) × (library_at v.libraries r.library ≡ Some l)
  its_library = by (library_at v.libraries r.library) refl fitting.inputs
    where
      by : (o : Option (List Definition)) → library_at v.libraries r.library ≡ o → TakesItsInputs v r (option_and_then (definition_named r.definition) o)
          → (l : List Definition) × (library_at v.libraries r.library ≡ Some l)
      by None is h = absurd h
      by (Some l) is h = (l, is)

  library_same : library_at w.libraries t.library ≡ library_at v.libraries r.library
  library_same =
      ap (library_at w.libraries) carried.library ∙ ap (λ (ks : List Known). library_at ks r.library) c.libraries.1
      ∙ library_stays v.libraries c.libraries.0 r.library its_library.0 its_library.1

  inputs_same : recorded_inputs w t.node ≡ recorded_inputs v r.node
  inputs_same = ap (recorded_inputs w) carried.node ∙ found_holds (λ x. recorded_inputs w x.node ≡ recorded_inputs v x.node) r.node v.records r c.inputs found

  pub request_same : recorded_request w t ≡ recorded_request v r
  request_same = λ i. request_by (option_and_then (definition_named (carried.definition i)) (library_same i)) (inputs_same i)
