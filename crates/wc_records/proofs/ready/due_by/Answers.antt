use Rattle.std.proofs.Common.{ℕ, rules, of_calls, arith}
use Rattle.std.specs.Prelude.{nat_le}
use Rattle.std.proofs.lemmas.Fn.{always_returns_same}
use Rattle.wc_records.proofs.Parted.{dues_parted, front_is_filter}
use Rattle.wc_records.proofs.ready.due_by.Goals as goal

pub returns : goal.returns
returns c =
    let xs = c.args.dues.now in
    let n = c.args.now in
    let point = c.partition_point-at.ensures.partitioned (λ (d : ℕ × ℕ). nat_le d.0 n) (always_returns_same _ _ _ (λ a r f k. search (rules, of_calls))) (dues_parted n xs c.requires) in
    front_is_filter (λ (d : ℕ × ℕ). nat_le d.0 n) xs c.partition_point-at.result (λ k d lt within. point.0 k d (omega arith) lt) (λ k d le lt. point.1 k d le lt)
