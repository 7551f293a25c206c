use Rattle.std.proofs.Common.{◌≡◌, ◌++◌, take, map}
use Rattle.wc_check.proofs.places.put_fetch_places.Given as goal

abbrev pub invariant-loop-file : goal.invariant-loop-file
invariant-loop-file l = l.found.items ≡ l.fn.found.items ++ map (λ x. x.at) (take l.file-index l.files)
