use Rattle.std.proofs.Common.{◌≡◌, ◌+◌, ◌++◌, drop}
use Rattle.wc_machine.specs.Ends.{creations}
use Rattle.wc_calculation_turns.proofs.changes.put_outputs.Given as goal

abbrev pub invariant-loop-label : goal.invariant-loop-label
invariant-loop-label l = record {
  number : l.next ≡ l.fn.first + l.label-index;
  creations : l.changes ++ creations l.next l.pid (drop l.label-index l.label-items) ≡ l.fn.changes ++ creations l.first l.pid l.label-items;
}
