use Rattle.std.proofs.Common.{◌≡◌, ◌+◌, length, drop}
use Rattle.wc_world.specs.Room.{needed}
use Rattle.wc_store.proofs.batches.nodes_after.Given as goal

-- what was counted and what is left add up to the whole
abbrev pub invariant-loop-change : goal.invariant-loop-change
invariant-loop-change l = l.count + (needed (drop l.change-index l.change-items)).nodes ≡ length l.world.world.nodes + (needed l.changes).nodes
