use Rattle.std.proofs.Common.{◌≡◌, ◌≤◌, length, drop}
use Rattle.wc_matches.specs.Sets.{AreWithin, AreSets}
use Rattle.wc_matches.proofs.sets.sets_of.Given as goal

abbrev pub invariant-loop-at : goal.invariant-loop-at
invariant-loop-at l = record {
  joins : l.joins ≡ l.query.more;
  place : l.at ≤ length l.query.more;
  within : AreWithin l.world.world (drop l.at l.query.more) l.within.items;
  sets : AreSets l.world.world (drop l.at l.query.more) l.sets.items;
}

abbrev pub decreases-loop-at : goal.decreases-loop-at
decreases-loop-at l = l.at
