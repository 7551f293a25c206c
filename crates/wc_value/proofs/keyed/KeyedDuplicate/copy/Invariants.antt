use Rattle.std.proofs.Common.{◌≡◌, take}
use Rattle.wc_value.proofs.keyed.KeyedDuplicate.copy.Given as goal

abbrev pub invariant-loop-name : goal.invariant-loop-name
invariant-loop-name g l = l.items.items ≡ take l.name-index l.name-items
