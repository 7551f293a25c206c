-- What a world has in which a process has ended, whatever it came to.
use Rattle.std.proofs.Common.{◌≡◌, ◌≢◌, ℕ, ℤ, suc, ◌+◌, ◌<◌, ◌≤◌, true, false, Option, Some, [], ◌∷◌, ◌++◌, length, refl, ap, ◌∙◌, arith}
use Rattle.std.specs.Prelude.{All, ◌==◌}
use Rattle.std.proofs.lemmas.Bool.{cond-true, cond-false, eq-eqb, ne_eqb}
use Rattle.std.proofs.lemmas.List.{length-append}
use Rattle.std.proofs.lemmas.List.Elements.{All-nil, All-cons, All-append}
use Rattle.wc_graph.specs.declared.link.LinkType.TheVariants.{Create}
use Rattle.wc_semantics.specs.Rules.{Values}
use Rattle.wc_semantics.specs.declared.outcomes.Parsed.{Parsed}
use Rattle.wc_state.specs.declared.record.ProcessRecord.{ProcessRecord}
use Rattle.wc_world.specs.World.{World}
use Rattle.wc_world.specs.Records.{find_record, at_process, has_ended}
use Rattle.wc_world.specs.Consistent.{Stands, IsConsistent}
use Rattle.wc_world.specs.Trees.{values_alone}
use Rattle.wc_world.proofs.FoundRecords.{found_holds}
use Rattle.wc_machine.specs.Recorded.{recorded_inputs, recorded_outputs}
use Rattle.wc_machine.specs.Sound.{GoesUp}
use Rattle.wc_machine.specs.Submissions.{AreInputs}
use Rattle.wc_machine.proofs.AcceptedEnds.{process_is_node, live_without_output}
use Rattle.wc_machine.proofs.ContinuedEnds.{found_after}
use Rattle.wc_machine.proofs.CreatedOutputs.{creates_no_input, creates_no_output, outputs_created}
use Rattle.wc_machine.proofs.Endings.{data_nodes, creates, end_record, ended_world}
use Rattle.wc_machine.proofs.Frames.{node_number, inputs_stay, outputs_stay}
use Rattle.wc_machine.proofs.FunctionFuel.{live_fuel, less_fuel}

creates_up : (next pid : ℕ) (os : Values) → pid < next → All GoesUp (creates next pid os)
creates_up next pid [] lt = All-nil GoesUp
creates_up next pid (o ∷ os) lt =
    All-cons GoesUp (record { source = pid; target = next; link = Create; label = o.0 }) (creates (suc next) pid os) (λ is. lt) (creates_up (suc next) pid os (omega arith))

module _ (w : World) (r : ProcessRecord) (p : Parsed) (source : Option ℕ) (code : Option ℤ) where
  -- the world after the end, and what the end makes of a record
  abbrev pub after : World
  after = ended_world w r p source code

  abbrev pub ending : ProcessRecord → ProcessRecord
  ending = end_record w r p source code

  pub inputs_kept : IsConsistent w → (pid : ℕ) → recorded_inputs after pid ≡ recorded_inputs w pid
  inputs_kept c pid =
      ap values_alone (inputs_stay w.nodes (data_nodes p.outputs) pid w.links (creates (length w.nodes + 1) r.node p.outputs) c.links.ends
      (creates_no_input pid (length w.nodes + 1) r.node p.outputs))

  pub outputs_kept : IsConsistent w → (pid : ℕ) → r.node ≢ pid → recorded_outputs after pid ≡ recorded_outputs w pid
  outputs_kept c pid ne =
      ap values_alone (outputs_stay w.nodes (data_nodes p.outputs) pid w.links (creates (length w.nodes + 1) r.node p.outputs) c.links.ends
      (creates_no_output pid (length w.nodes + 1) r.node p.outputs ne))

  pub outputs_of_end : IsConsistent w → find_record r.node w.records ≡ Some r → has_ended r.state ≡ false → AreInputs p.outputs → recorded_outputs after r.node ≡ p.outputs
  outputs_of_end c found live a =
      let stands : Stands w r = found_holds (Stands w) r.node w.records r c.records found in
      outputs_created w.nodes w.links r.node p.outputs a.ascend (live_without_output w r stands live)

  pub found_other : (q : ProcessRecord) → find_record q.node w.records ≡ Some q → q.node ≢ r.node → find_record q.node after.records ≡ Some q
  found_other q found ne =
      found_after w r p source code q.node q found ∙ ap (λ (x : ProcessRecord). Some x) (cond-false (q.node == r.node) (ending q) q (ne_eqb q.node r.node ne))

  pub found_end : find_record r.node w.records ≡ Some r → find_record r.node after.records ≡ Some (ending r)
  found_end found =
      found_after w r p source code r.node r found ∙ ap (λ (x : ProcessRecord). Some x) (cond-true (r.node == r.node) (ending r) r (eq-eqb r.node r.node refl))

  pub upward_after : IsConsistent w → find_record r.node w.records ≡ Some r → All GoesUp w.links → All GoesUp after.links
  upward_after c found up =
      let le : r.node ≤ length w.nodes = node_number w.nodes r.node (_, process_is_node w c r found) in
      All-append GoesUp w.links (creates (length w.nodes + 1) r.node p.outputs) up (creates_up (length w.nodes + 1) r.node p.outputs (omega arith))

  pub fuel_after : has_ended p.state ≡ true → live_fuel w.records ≤ w.batches + length w.nodes → live_fuel after.records ≤ after.batches + length after.nodes
  fuel_after over le =
      let less : live_fuel (at_process r.node ending w.records) ≤ live_fuel w.records = less_fuel r.node ending w.records (λ x. over) in
      let more : length (w.nodes ++ data_nodes p.outputs) ≡ length w.nodes + length (data_nodes p.outputs) = length-append w.nodes (data_nodes p.outputs) in
      omega arith
