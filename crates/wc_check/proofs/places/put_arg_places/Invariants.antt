use Rattle.std.proofs.Common.{◌≡◌, ◌++◌, take, map}
use Rattle.wc_check.proofs.places.put_arg_places.Given as goal

abbrev pub invariant-loop-line : goal.invariant-loop-line
invariant-loop-line l = l.found.items ≡ l.fn.found.items ++ map (λ x. x.at) (take l.line-index l.lines)
