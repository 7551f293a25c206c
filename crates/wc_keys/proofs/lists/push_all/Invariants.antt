use Rattle.std.proofs.Common.{◌≡◌, ◌++◌, take, vec_capacity}
use Rattle.wc_keys.proofs.lists.push_all.Given as goal

abbrev pub invariant-loop-seal : goal.invariant-loop-seal
invariant-loop-seal l =
    (l.long.items ≡ l.fn.long.items ++ take l.seal-index l.seals) × (vec_capacity l.long ≡ vec_capacity l.fn.long)
