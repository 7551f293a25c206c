-- What is recorded of the processes that a chain called are the calls that it planned.
use Rattle.std.proofs.Common.{◌≡◌, ℕ, suc, List, [], ◌∷◌, Some, map, refl, ap, ◌∙◌}
use Rattle.wc_semantics.specs.Rules.{Values}
use Rattle.wc_state.specs.declared.record.ProcessRecord.{ProcessRecord}
use Rattle.wc_world.specs.World.{World}
use Rattle.wc_world.specs.Records.{find_record}
use Rattle.wc_machine.specs.Calls.{awaits, called_number}
use Rattle.wc_machine.specs.Recorded.{recorded_inputs}
use Rattle.wc_machine.specs.Rest.{and_planned, awaited, planned_of}
use Rattle.wc_machine.specs.Steps.{Call, values_in}
use Rattle.wc_turn_laws.specs.OutlineLaws.{as_planned}
use Rattle.wc_soundness.specs.Submitted.{EachCall, child_record}

module _ (w : World) (r : ProcessRecord) where
  -- a called process is there, and its inputs are those of the call
  abbrev pub IsMade : World → ℕ → Call → Type 0
  IsMade v next x = (find_record (called_number w r next x) v.records ≡ Some (child_record w r next x)) × (recorded_inputs v (called_number w r next x) ≡ values_in x.args)

  -- so what is recorded of the awaited processes are the calls that were planned
  pub awaited_is : (v : World) (next : ℕ) (calls : List Call) → EachCall w r (IsMade v) next calls → awaited v (awaits w r next calls) ≡ Some (map as_planned calls)
  awaited_is v next [] h = refl
  awaited_is v next (x ∷ xs) h =
      let one : planned_of v (record { key = x.key; append = x.append; pid = called_number w r next x }) (find_record (called_number w r next x) v.records) ≡ Some (as_planned x)
      = ap (planned_of v (record { key = x.key; append = x.append; pid = called_number w r next x })) h.0.0
      ∙ ap (λ (values : Values). Some (record { callee = x.definition; key = x.key; append = x.append; inputs = values })) h.0.1 in
      λ i. and_planned (one i) (awaited_is v (suc (called_number w r next x)) xs h.1 i)
