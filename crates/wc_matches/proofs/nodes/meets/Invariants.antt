use Rattle.std.proofs.Common.{◌≡◌, drop}
use Rattle.std.specs.List.{list_all}
use Rattle.wc_matches.specs.Meets.{passes}
use Rattle.wc_matches.proofs.nodes.meets.Given as goal

abbrev pub invariant-loop-filter : goal.invariant-loop-filter
invariant-loop-filter l = list_all (passes l.world.world l.node) (drop l.filter-index l.filter-items) ≡ list_all (passes l.world.world l.node) l.test.filters
