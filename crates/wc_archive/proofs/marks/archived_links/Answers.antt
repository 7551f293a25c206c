use Rattle.std.proofs.Common.{slice_index}
use Rattle.wc_archive.specs.Marks.{is_marked_link}
use Rattle.wc_archive.proofs.Marking.{mapped_all, mapped_more}
use Rattle.wc_archive.proofs.marks.archived_links.Goals as goal

pub loop-link-preserved : goal.loop-link-preserved
loop-link-preserved c =
    mapped_more (slice_index c.args.numbers.now) (is_marked_link c.args.below.now) c.args.links.now c.loop-link.kept c.put_link.new.links c.loop-link.link-index _ c.link-item.result
    c.loop-link-test.true c.link-item.is c.loop-link.invariant c.in_ok-put_link.ensures

pub returns : goal.returns
returns c =
    mapped_all (slice_index c.args.numbers.now) (is_marked_link c.args.below.now) c.args.links.now c.loop-link.kept c.loop-link.link-index c.loop-link-test.false c.loop-link.invariant
