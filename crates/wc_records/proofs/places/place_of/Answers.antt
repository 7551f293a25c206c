use Rattle.std.proofs.Common.{rules, of_calls, arith}
use Rattle.std.specs.Prelude.{nat_lt}
use Rattle.std.proofs.lemmas.Fn.{always_returns_same}
use Rattle.std.proofs.lemmas.List.Sorted.{IsPartitionedBy-ltb}
use Rattle.std.proofs.lemmas.Bool.{ltb-true, ltb-false}
use Rattle.wc_records.proofs.Halving.{ascending_rises}
use Rattle.wc_records.proofs.places.place_of.Goals as goal

pub returns : goal.returns
returns c =
    let rs = c.args.records.now in
    let pid = c.args.pid in
    let point = c.partition_point.ensures.partitioned (λ r. nat_lt r.node pid) (always_returns_same _ _ _ (λ a r f k. search (rules, of_calls)))
    (IsPartitionedBy-ltb (λ r. r.node) rs pid (ascending_rises 0 rs c.requires)) in
    record {
      before = λ k d lt within. ltb-true _ _ (point.0 k d (omega arith) lt);
      behind = λ k d le within. ltb-false _ _ (point.1 k d le within);
    }
