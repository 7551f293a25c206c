use Rattle.std.proofs.Common.{arith}
use Rattle.wc_world.proofs.world.World.of.Goals as goal

pub invariant_of-result : goal.invariant_of-result
invariant_of-result c = (c.played.invariant, tt, let places = c.in_ok-reserve.ensures.places in omega (arith, c.len.ensures, places))
