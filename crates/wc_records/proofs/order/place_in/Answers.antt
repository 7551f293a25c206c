use Rattle.std.proofs.Common.{rules, of_calls, arith}
use Rattle.std.proofs.lemmas.Fn.{always_returns_same}
use Rattle.wc_records.proofs.Marks.{sorted_is_parted}
use Rattle.wc_records.proofs.order.place_in.Goals as goal

pub returns : goal.returns
returns g c =
    let xs = c.args.items.now in
    let d = c.args.item in
    let point = c.partition_point.ensures.partitioned (λ x. g.T.Ordered.before x d) (always_returns_same _ _ _ (λ a r f k. search (rules, of_calls)))
    (sorted_is_parted g.T.Ordered.before g.met.T.Ordered.in_line d xs c.requires) in
    record {
      within = c.partition_point.ensures.bound;
      front = λ k x lt. point.0 k x (omega arith) lt;
      back = λ k x le lt. point.1 k x le lt;
    }
