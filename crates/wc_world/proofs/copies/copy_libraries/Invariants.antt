use Rattle.std.proofs.Common.{◌≡◌, take}
use Rattle.wc_world.proofs.copies.copy_libraries.Given as goal

abbrev pub invariant-loop-known : goal.invariant-loop-known
invariant-loop-known l = l.copies.0 ≡ take l.known-index l.known-items
