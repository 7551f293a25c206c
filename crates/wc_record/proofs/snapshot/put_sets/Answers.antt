use Rattle.std.proofs.Common.{sym, subst, arith}
use Rattle.wc_state.specs.declared.record.ProcessRecord.{ProcessRecord}
use Rattle.wc_record.specs.Written.{IsReadablePart}
use Rattle.wc_world.specs.Snapshot.{set_change}
use Rattle.wc_record.proofs.Remaining.{leaves_all, mapped_more, mapped_all}
use Rattle.wc_record.proofs.snapshot.put_sets.Goals as goal

pub loop-process-init : goal.loop-process-init
loop-process-init c = leaves_all _ _

pub loop-process-preserved : goal.loop-process-preserved
loop-process-preserved c =
    mapped_more set_change c.args.records.now c.loop-process.process-index c.process-item.result _ _ _ _ c.loop-process-test.true c.process-item.is c.loop-process.invariant c.in_ok-put_set.ensures.bytes
    (c.in_ok-put_set.ensures.fits (subst (λ (r : ProcessRecord). IsReadablePart r.part) (sym c.process-item.is) (c.requires.readable c.loop-process.process-index c.process-item.result c.loop-process-test.true)))

pub returns : goal.returns
returns c =
    let all = mapped_all set_change c.args.records.now c.loop-process.process-index _ _ _ (omega arith) c.loop-process.invariant in
    record { bytes = all.bytes; fits = all.fits }
