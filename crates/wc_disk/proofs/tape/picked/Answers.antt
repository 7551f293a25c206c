use Rattle.std.proofs.lemmas.Result.{IfOk-weaker}
use Rattle.wc_disk.proofs.Replaying.{old_is_picked}
use Rattle.wc_disk.proofs.tape.picked.Goals as goal

pub returns-in-Old : goal.returns-in-Old
returns-in-Old c =
    IfOk-weaker c.replayed.result _ _
    (λ image is. old_is_picked c.args.pick c.args.begun.now c.args.calls.now c.split_at.result.0.now c.last_sync.result image.items c.in-Old.is c.last_sync.ensures.ends c.last_sync.ensures.none is c.split_at.ensures.front)
    c.replayed.ensures
