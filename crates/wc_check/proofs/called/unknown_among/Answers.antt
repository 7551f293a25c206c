use Rattle.wc_syntax.specs.Findings.{unknown_port}
use Rattle.wc_check.proofs.Leasts.{least_step}
use Rattle.wc_check.proofs.called.unknown_among.Goals as goal

pub loop-arg-preserved : goal.loop-arg-preserved
loop-arg-preserved c = least_step (unknown_port c.args.ports.now) _ _ _ c.args.args.now _ c.arg-item.result c.loop-arg.invariant c.unknown_port.ensures c.loop-arg-test.true c.arg-item.is
