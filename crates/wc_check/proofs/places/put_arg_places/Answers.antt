use Rattle.std.proofs.Common.{sym, append-nil, map}
use Rattle.wc_check.proofs.Gathered.{map_turn, whole}
use Rattle.wc_check.proofs.places.put_arg_places.Goals as goal

pub loop-line-init : goal.loop-line-init
loop-line-init c = sym (append-nil c.args.found.now.items)

pub loop-line-preserved : goal.loop-line-preserved
loop-line-preserved c = map_turn (λ x. x.at) _ _ _ c.args.lines.now c.loop-line.line-index c.line-item.result c.loop-line.invariant c.in_ok-push.ensures.items c.loop-line-test.true c.line-item.is

pub returns : goal.returns
returns c = whole (map (λ x. x.at)) _ _ c.args.lines.now c.loop-line.line-index c.loop-line.invariant c.loop-line-test.false
