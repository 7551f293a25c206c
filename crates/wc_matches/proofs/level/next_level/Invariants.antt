use Rattle.std.proofs.Common.{◌≡◌, length, take}
use Rattle.wc_matches.specs.Sets.{LeadsInto}
use Rattle.wc_matches.specs.Found.{AreBlank}
use Rattle.wc_matches.specs.Levels.{AllGoOnTo}
use Rattle.wc_matches.specs.Ways.{IsWay}
use Rattle.wc_matches.proofs.level.next_level.Given as goal

abbrev pub invariant-loop-at : goal.invariant-loop-at
invariant-loop-at l = record {
  size : length l.marks ≡ length l.fn.marks;
  blank : AreBlank l.marks;
  way : IsWay l.graph.links l.join l.set l.way;
  on : AllGoOnTo (LeadsInto l.graph.links l.join l.set) l.most (take l.at l.rows) l.out;
}
