use Rattle.std.proofs.Common.{◌∙◌, ap, sym}
use Rattle.wc_check.specs.Least.{least_after}
use Rattle.wc_check.proofs.Ruled.{over_read, over_within}
use Rattle.wc_check.proofs.rules.over_ports.Goals as goal

pub returns-then-ports-gt-MOST_PORTS : goal.returns-then-ports-gt-MOST_PORTS
returns-then-ports-gt-MOST_PORTS c = c.offer.ensures ∙ ap (least_after c.args.best.now) (sym (over_read (λ x. x.at) 32 c.args.ports.now c.index-ports-32.result c.if-ports-gt-MOST_PORTS.true))

pub returns-else-ports-gt-MOST_PORTS : goal.returns-else-ports-gt-MOST_PORTS
returns-else-ports-gt-MOST_PORTS c = ap (least_after c.args.best.now) (sym (over_within (λ x. x.at) 32 c.args.ports.now c.if-ports-gt-MOST_PORTS.false))
