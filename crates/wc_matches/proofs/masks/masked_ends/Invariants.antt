use Rattle.std.proofs.Common.{◌≡◌, ◌++◌, drop}
use Rattle.wc_matches.specs.Masks.{masked}
use Rattle.wc_matches.proofs.masks.masked_ends.Given as goal

abbrev pub invariant-loop-place : goal.invariant-loop-place
invariant-loop-place l = l.ids.items ++ masked (drop l.place l.ends) l.place l.mask ≡ masked l.ends 0 l.mask
