use Rattle.std.proofs.Common.{◌≡◌, ◌+◌, drop}
use Rattle.wc_world.specs.Room.{needed}
use Rattle.wc_world.proofs.effects.count.Given as goal

-- what was counted and what is left add up to the whole
abbrev pub invariant-loop-change : goal.invariant-loop-change
invariant-loop-change l = record {
  nodes : l.need.nodes + (needed (drop l.change-index l.changes)).nodes ≡ (needed l.changes).nodes;
  links : l.need.links + (needed (drop l.change-index l.changes)).links ≡ (needed l.changes).links;
  records : l.need.records + (needed (drop l.change-index l.changes)).records ≡ (needed l.changes).records;
  libraries : l.need.libraries + (needed (drop l.change-index l.changes)).libraries ≡ (needed l.changes).libraries;
}
