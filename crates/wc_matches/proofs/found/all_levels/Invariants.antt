use Rattle.std.proofs.Common.{◌≡◌, ◌+◌, length, take, drop}
use Rattle.wc_matches.specs.First.{AreFirst}
use Rattle.wc_matches.specs.Found.{AreBlank}
use Rattle.wc_matches.specs.Levels.{IsBegun}
use Rattle.wc_matches.specs.Sets.{AreSets}
use Rattle.wc_matches.proofs.found.all_levels.Given as goal

abbrev pub invariant-loop-join : goal.invariant-loop-join
invariant-loop-join l = record {
  size : length l.marks ≡ length l.world.world.nodes + 1;
  blank : AreBlank l.marks;
  sets : AreSets l.world.world (drop l.join-index l.query.more) l.sets.items;
  rows : AreFirst (IsBegun l.world.world l.query.first (take l.join-index l.query.more) (drop l.join-index l.query.more)) l.most l.rows;
}
