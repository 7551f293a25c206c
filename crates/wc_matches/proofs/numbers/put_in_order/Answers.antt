use Rattle.wc_matches.proofs.Ordering.{ordered_ascends, ordered_has}
use Rattle.std.proofs.lemmas.List.Filters.{dedup_is}
use Rattle.wc_matches.proofs.numbers.put_in_order.Goals as goal

pub returns-clause-ascend : goal.returns-clause-ascend
returns-clause-ascend c = ordered_ascends _ _ c.sort_unstable.ensures.sorted (dedup_is _ _ _ c.dedup.ensures.filtered)

pub returns-clause-same : goal.returns-clause-same
returns-clause-same c = λ m. ordered_has _ _ _ c.sort_unstable.ensures.permutation (dedup_is _ _ _ c.dedup.ensures.filtered) m
