use Rattle.std.proofs.Common.{rules, of_calls, arith}
use Rattle.std.proofs.lemmas.Fn.{always_returns_same}
use Rattle.wc_records.proofs.Marks.{sorted_is_parted}
use Rattle.wc_keys.specs.Order.{earlier}
use Rattle.wc_keys.proofs.Orders.{in_order}
use Rattle.wc_keys.proofs.entries.place_in.Goals as goal

pub returns : goal.returns
returns c =
    let xs = c.args.seals.now in
    let s = c.args.seal.now in
    let point = c.partition_point.ensures.partitioned (λ x. earlier x s) (always_returns_same _ _ _ (λ a r f k. search (rules, of_calls))) (sorted_is_parted earlier in_order s xs c.requires) in
    record {
      within = c.partition_point.ensures.bound;
      front = λ k x lt. point.0 k x (omega arith) lt;
      back = λ k x le lt. point.1 k x le lt;
    }
