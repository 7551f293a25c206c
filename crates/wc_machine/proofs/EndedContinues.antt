-- The world in which a process has ended continues the one before.
use Rattle.std.proofs.Common.{◌≡◌, ℕ, ℤ, ◌+◌, false, Option, Some, [], length, get_or, refl, sym, arith}
use Rattle.std.specs.Prelude.{All}
use Rattle.std.proofs.lemmas.List.{append-nil}
use Rattle.wc_semantics.specs.declared.outcomes.Parsed.{Parsed}
use Rattle.wc_state.specs.declared.record.ProcessRecord.{ProcessRecord}
use Rattle.wc_world.specs.World.{World}
use Rattle.wc_world.specs.Consistent.{IsConsistent}
use Rattle.wc_world.specs.Records.{find_record, has_ended}
use Rattle.wc_world.proofs.ReachedLists.{unique, AreUnique}
use Rattle.wc_machine.specs.Continues.{Continues}
use Rattle.wc_machine.specs.Sound.{CallsAreKept}
use Rattle.wc_machine.proofs.ContinuedEnds.{after_end, found_after, carried}
use Rattle.wc_machine.proofs.EndedTrees.{ended_tree_kept}
use Rattle.wc_machine.proofs.EndedWorlds.{inputs_kept}
use Rattle.wc_machine.proofs.Endings.{data_nodes, creates, ended_world}

-- a process that hasn't started may end
pub ended_continues : (w : World) (r : ProcessRecord) (p : Parsed) (source : Option ℕ) (code : Option ℤ) → IsConsistent w → All (CallsAreKept w) w.records
    → find_record r.node w.records ≡ Some r → has_ended r.state ≡ false → r.started ≡ 0 → Continues w (ended_world w r p source code)
ended_continues w r p source code c calls found live unstarted =
    let there : AreUnique w.records = unique 1 w.nodes w.records c.numbered in
    record {
      libraries = ([], sym (append-nil w.libraries));
      nodes = (data_nodes p.outputs, refl);
      links = (creates (length w.nodes + 1) r.node p.outputs, refl);
      batches = omega arith;
      records = λ i d lt.
          let q = get_or w.records i d in
          (after_end w r p source code q, found_after w r p source code q.node q (there i d lt), carried w r p source code found live unstarted q (there i d lt));
      inputs = λ i d lt. inputs_kept w r p source code c (get_or w.records i d).node;
      trees = λ i d lt over. ended_tree_kept w r p source code c calls found live (get_or w.records i d) (there i d lt) over;
    }
