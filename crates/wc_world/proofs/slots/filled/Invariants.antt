use Rattle.std.proofs.Common.{◌≡◌, drop}
use Rattle.wc_world.specs.Slots.{filled}
use Rattle.wc_world.proofs.slots.filled.Given as goal

abbrev pub invariant-loop-kept : goal.invariant-loop-kept
invariant-loop-kept l = filled l.slots.items (drop l.kept-index l.kepts) ≡ filled l.fn.slots.items l.kepts
