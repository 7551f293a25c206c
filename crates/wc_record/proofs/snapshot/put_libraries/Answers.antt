use Rattle.std.proofs.Common.{arith}
use Rattle.wc_world.specs.Snapshot.{library_change}
use Rattle.wc_record.proofs.Remaining.{leaves_all, mapped_more, mapped_all}
use Rattle.wc_record.proofs.snapshot.put_libraries.Goals as goal

pub loop-library-init : goal.loop-library-init
loop-library-init c = leaves_all _ _

pub loop-library-preserved : goal.loop-library-preserved
loop-library-preserved c =
    mapped_more library_change c.args.libraries.now c.loop-library.library-index c.loop-library-item.result _ _ _ _ c.loop-library-test.true c.loop-library-item.is c.loop-library.invariant c.in_ok-put_library.ensures.bytes
    c.in_ok-put_library.ensures.fits

pub returns : goal.returns
returns c =
    let all = mapped_all library_change c.args.libraries.now c.loop-library.library-index _ _ _ (omega arith) c.loop-library.invariant in
    record { bytes = all.bytes; fits = all.fits }
