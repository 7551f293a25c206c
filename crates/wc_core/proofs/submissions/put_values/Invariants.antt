use Rattle.std.proofs.Common.{◌≡◌, ◌++◌, map, drop}
use Rattle.wc_machine.specs.Submissions.{data_change}
use Rattle.wc_core.proofs.submissions.put_values.Given as goal

abbrev pub invariant-loop-value : goal.invariant-loop-value
invariant-loop-value l = l.changes ++ map data_change (drop l.value-index l.value-items) ≡ l.fn.changes ++ map data_change l.value-items
