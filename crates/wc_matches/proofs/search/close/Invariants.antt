use Rattle.std.proofs.Common.{◌≡◌, ◌+◌, ◌-◌, length, not}
use Rattle.std.specs.Prelude.{count_by}
use Rattle.wc_matches.specs.Joins.{OpenSteps}
use Rattle.wc_matches.specs.Found.{AreMarked, IsClosed}
use Rattle.wc_matches.proofs.search.close.Given as goal

abbrev pub invariant-loop-done : goal.invariant-loop-done
invariant-loop-done l = record {
  size : length l.marks ≡ length l.fn.marks;
  marked : AreMarked l.marks l.found.items;
  closed : IsClosed (OpenSteps l.forward l.types l.barred l.graph.links) l.fn.found.items l.found.items l.done;
}

abbrev pub decreases-loop-done : goal.decreases-loop-done
decreases-loop-done l = count_by not l.marks + (length l.found.items - l.done)
