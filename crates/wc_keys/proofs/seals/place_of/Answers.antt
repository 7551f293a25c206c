use Rattle.std.proofs.Common.{rules, of_calls, arith}
use Rattle.std.proofs.lemmas.Fn.{always_returns_same}
use Rattle.wc_value.specs.Ascending.{before}
use Rattle.wc_keys.specs.declared.entries.Sealed.{Sealed}
use Rattle.wc_keys.specs.Order.{earlier}
use Rattle.wc_keys.proofs.Orders.{in_order, before_stays}
use Rattle.wc_keys.proofs.Sorting.{parted}
use Rattle.wc_keys.proofs.seals.place_of.Goals as goal

pub returns : goal.returns
returns c =
    let xs = c.args.seals.now in
    let d = c.args.digest.now in
    let point = c.partition_point.ensures.partitioned (λ (s : Sealed). before s.digest d) (always_returns_same _ _ _ (λ a r f k. search (rules, of_calls)))
    (parted earlier in_order (λ (s : Sealed). before s.digest d) (before_stays d) xs c.requires) in
    record {
      within = c.partition_point.ensures.bound;
      front = λ k x lt. point.0 k x (omega arith) lt;
      back = λ k x le lt. point.1 k x le lt;
    }
