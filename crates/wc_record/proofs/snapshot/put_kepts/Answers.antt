use Rattle.std.proofs.Common.{arith}
use Rattle.wc_world.specs.Snapshot.{kept_change}
use Rattle.wc_record.proofs.Remaining.{leaves_all, mapped_more, mapped_all}
use Rattle.wc_record.proofs.snapshot.put_kepts.Goals as goal

pub loop-process-init : goal.loop-process-init
loop-process-init c = leaves_all _ _

pub loop-process-preserved : goal.loop-process-preserved
loop-process-preserved c =
    mapped_more kept_change c.args.records.now c.loop-process.process-index c.process-item.result _ _ _ _ c.loop-process-test.true c.process-item.is c.loop-process.invariant c.in_ok-put_times.ensures.bytes
    c.in_ok-put_times.ensures.fits

pub returns : goal.returns
returns c =
    let all = mapped_all kept_change c.args.records.now c.loop-process.process-index _ _ _ (omega arith) c.loop-process.invariant in
    record { bytes = all.bytes; fits = all.fits }
