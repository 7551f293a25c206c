use Rattle.std.proofs.Common.{◌≡◌, ◌≤◌, length, take}
use Rattle.std.specs.Prelude.{reverse}
use Rattle.wc_machine.specs.Advances.{popped}
use Rattle.wc_outline.specs.Places.{behind}
use Rattle.wc_outline.proofs.frames.kept.Given as goal

abbrev pub invariant-loop-count : goal.invariant-loop-count
invariant-loop-count l =
    record { within : l.count ≤ length l.frames; popped : popped (behind l.blocks) (reverse (take l.count l.frames)) ≡ popped (behind l.blocks) (reverse l.frames) }

abbrev pub decreases-loop-count : goal.decreases-loop-count
decreases-loop-count l = l.count
