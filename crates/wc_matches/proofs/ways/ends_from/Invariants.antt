use Rattle.std.proofs.Common.{◌≡◌, ◌++◌, drop}
use Rattle.wc_matches.specs.Ways.{ends_from}
use Rattle.wc_matches.proofs.ways.ends_from.Given as goal

abbrev pub invariant-loop-place : goal.invariant-loop-place
invariant-loop-place l = l.ids.items ++ ends_from (drop l.place l.ends) (drop l.place l.columns) l.node ≡ ends_from l.ends l.columns l.node
