use Rattle.std.proofs.Common.{◌-◌, ◌≤◌, length}
use Rattle.wc_records.specs.Index.{ended_first}
use Rattle.wc_records.proofs.awaits.ended_first.Given as goal

abbrev pub invariant-loop-at : goal.invariant-loop-at
invariant-loop-at l = l.at ≤ ended_first l.records l.awaiting

abbrev pub decreases-loop-at : goal.decreases-loop-at
decreases-loop-at l = length l.awaiting - l.at
