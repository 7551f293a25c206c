use Rattle.std.proofs.Common.{take}
use Rattle.wc_matches.specs.Ways.{AreColumns}
use Rattle.wc_matches.specs.Joins.{IsJoined}
use Rattle.wc_matches.proofs.ways.columns.Given as goal

abbrev pub invariant-loop-end : goal.invariant-loop-end
invariant-loop-end l = AreColumns (IsJoined l.graph.links l.join) (take l.end-index l.ends) l.columns
