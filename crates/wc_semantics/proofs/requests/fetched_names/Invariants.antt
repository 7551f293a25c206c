use Rattle.std.proofs.Common.{◌≡◌, map, take}
use Rattle.wc_semantics.specs.Requests.{fetched}
use Rattle.wc_semantics.proofs.requests.fetched_names.Given as goal

abbrev pub invariant-loop-line : goal.invariant-loop-line
invariant-loop-line l = l.names ≡ map fetched (take l.line-index l.line-items)
