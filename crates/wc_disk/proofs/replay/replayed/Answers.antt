use Rattle.wc_disk.proofs.Replaying.{replay_more}
use Rattle.wc_disk.proofs.replay.replayed.Goals as goal

pub loop-call-preserved : goal.loop-call-preserved
loop-call-preserved c =
    replay_more c.args.calls.now c.args.begun.now c.loop-call.bytes.items c.repeat.new.bytes.items c.loop-call.call-index c.call-item.result
    c.loop-call-test.true c.call-item.is c.loop-call.invariant c.in_ok-repeat.ensures
