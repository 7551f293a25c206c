use Rattle.wc_syntax.specs.Findings.{long_name}
use Rattle.wc_check.proofs.Leasts.{least_seen}
use Rattle.wc_check.proofs.lengths.long_in_args.Goals as goal

pub loop-arg-preserved : goal.loop-arg-preserved
loop-arg-preserved c = least_seen long_name (λ a. a.port) _ _ _ c.args.args.now _ c.arg-item.result c.loop-arg.invariant c.long_name.ensures c.loop-arg-test.true c.arg-item.is
