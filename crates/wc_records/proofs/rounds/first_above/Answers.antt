use Rattle.std.proofs.Common.{◌∙◌, rules, of_calls, arith}
use Rattle.std.specs.Prelude.{nat_le}
use Rattle.std.specs.Option.{option_or}
use Rattle.std.proofs.lemmas.Fn.{always_returns_same}
use Rattle.wc_records.proofs.Parted.{numbers_parted, found_above}
use Rattle.wc_records.proofs.rounds.first_above.Goals as goal

pub returns : goal.returns
returns c =
    let ns = c.args.numbers.now in
    let last = c.args.last in
    let point = c.partition_point-at.ensures.partitioned (λ n. nat_le n last) (always_returns_same _ _ _ (λ a r f k. search (rules, of_calls))) (numbers_parted last ns c.requires) in
    let found = found_above last ns c.partition_point-at.result c.partition_point-at.ensures.bound (λ k d lt. point.0 k d (omega arith) lt) (λ k d le lt. point.1 k d le lt) in
    c.or.ensures ∙ (λ i. option_or ((c.number_at.ensures ∙ found) i) (c.number_at-2.ensures i))
