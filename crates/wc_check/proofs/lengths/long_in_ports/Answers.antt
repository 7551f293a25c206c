use Rattle.wc_syntax.specs.Findings.{long_name}
use Rattle.wc_check.proofs.Leasts.{least_step}
use Rattle.wc_check.proofs.lengths.long_in_ports.Goals as goal

pub loop-port-preserved : goal.loop-port-preserved
loop-port-preserved c = least_step (λ p. long_name p.name) _ _ _ c.args.ports.now _ c.port-item.result c.loop-port.invariant c.long_name.ensures c.loop-port-test.true c.port-item.is
