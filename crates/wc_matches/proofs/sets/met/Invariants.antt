use Rattle.std.proofs.Common.{◌≡◌, ◌<◌, ◌&&◌, ℕ, false, length, get_or}
use Rattle.wc_matches.specs.Meets.{meets}
use Rattle.wc_matches.proofs.sets.met.Given as goal

abbrev pub invariant-loop-node : goal.invariant-loop-node
invariant-loop-node l = record {
  size : length l.set ≡ l.node;
  met : (m : ℕ) → m < l.node → get_or l.set m false ≡ (get_or l.within m false && meets l.world.world l.test m);
}
