use Rattle.std.proofs.Common.{arith}
use Rattle.wc_world.specs.declared.change.Change.TheVariants as change
use Rattle.wc_record.proofs.Remaining.{leaves_all, mapped_more, mapped_all}
use Rattle.wc_record.proofs.snapshot.put_links.Goals as goal

pub loop-link-init : goal.loop-link-init
loop-link-init c = leaves_all _ _

pub loop-link-preserved : goal.loop-link-preserved
loop-link-preserved c =
    mapped_more change.Link c.args.links.now c.loop-link.link-index c.link-item.result _ _ _ _ c.loop-link-test.true c.link-item.is c.loop-link.invariant c.in_ok-put_link.ensures.bytes
    c.in_ok-put_link.ensures.fits

pub returns : goal.returns
returns c =
    let all = mapped_all change.Link c.args.links.now c.loop-link.link-index _ _ _ (omega arith) c.loop-link.invariant in
    record { bytes = all.bytes; fits = all.fits }
