use Rattle.std.proofs.Common.{rules, of_calls, arith}
use Rattle.std.specs.Str.{bytes_eq}
use Rattle.std.proofs.lemmas.Fn.{always_returns_same}
use Rattle.wc_keys.specs.declared.entries.Sealed.{Sealed}
use Rattle.wc_keys.proofs.Parts.{run_parted}
use Rattle.wc_keys.proofs.seals.run_of.Goals as goal

pub returns : goal.returns
returns c =
    let xs = c.args.seals.now in
    let d = c.args.digest.now in
    let point = c.partition_point.ensures.partitioned (λ (s : Sealed). bytes_eq s.digest d) (always_returns_same _ _ _ (λ a r f k. search (rules, of_calls)))
    (run_parted d xs c.requires.order c.requires.first) in
    record {
      within = c.partition_point.ensures.bound;
      front = λ k x lt. point.0 k x (omega arith) lt;
      back = λ k x le lt. point.1 k x le lt;
    }
