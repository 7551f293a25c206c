use Rattle.std.proofs.Common.{sym, append-nil, map}
use Rattle.wc_check.proofs.Gathered.{map_turn, whole}
use Rattle.wc_check.proofs.places.put_fetch_places.Goals as goal

pub loop-file-init : goal.loop-file-init
loop-file-init c = sym (append-nil c.args.found.now.items)

pub loop-file-preserved : goal.loop-file-preserved
loop-file-preserved c = map_turn (λ x. x.at) _ _ _ c.args.files.now c.loop-file.file-index c.file-item.result c.loop-file.invariant c.in_ok-push.ensures.items c.loop-file-test.true c.file-item.is

pub returns : goal.returns
returns c = whole (map (λ x. x.at)) _ _ c.args.files.now c.loop-file.file-index c.loop-file.invariant c.loop-file-test.false
