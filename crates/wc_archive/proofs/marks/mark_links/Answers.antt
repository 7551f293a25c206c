use Rattle.std.proofs.Common.{◌<◌, length, refl, ◌∙◌, arith}
use Rattle.wc_graph.specs.declared.link.Link.{Link}
use Rattle.wc_archive.specs.Marks.{ends_at, is_marked}
use Rattle.wc_archive.proofs.Marking.{at_within, link_more, links_all, none_yet}
use Rattle.wc_archive.proofs.marks.mark_links.Goals as goal

pub mark_ends-requires-clause-source : goal.mark_ends-requires-clause-source
mark_ends-requires-clause-source c =
    let old = c.args.marks.now.items in
    let low : c.link-item.result.source < length old = at_within (λ (l : Link). l.source < length old) c.args.links.now c.loop-link.link-index _ c.link-item.result c.requires.sources c.loop-link-test.true c.link-item.is in
    let size = c.loop-link.invariant.size in
    omega (arith, low, size)

pub mark_ends-requires-clause-target : goal.mark_ends-requires-clause-target
mark_ends-requires-clause-target c =
    let old = c.args.marks.now.items in
    let low : c.link-item.result.target < length old = at_within (λ (l : Link). l.target < length old) c.args.links.now c.loop-link.link-index _ c.link-item.result c.requires.targets c.loop-link-test.true c.link-item.is in
    let size = c.loop-link.invariant.size in
    omega (arith, low, size)

pub loop-link-init : goal.loop-link-init
loop-link-init c = record { size = refl; marks = λ n. none_yet (ends_at c.args.below.now n) c.args.links.now (is_marked c.args.marks.now.items n) }

pub loop-link-preserved : goal.loop-link-preserved
loop-link-preserved c = record {
  size = c.mark_ends.ensures.size ∙ c.loop-link.invariant.size;
  marks = link_more c.args.marks.now.items c.loop-link.marks.items c.mark_ends.new.marks.items c.args.below.now c.args.links.now c.loop-link.link-index _ c.link-item.result
      c.loop-link-test.true c.link-item.is c.loop-link.invariant.marks c.mark_ends.ensures.marks;
}

pub returns-clause-marks : goal.returns-clause-marks
returns-clause-marks c =
    links_all c.args.marks.now.items c.loop-link.marks.items c.args.below.now c.args.links.now c.loop-link.link-index c.loop-link-test.false c.loop-link.invariant.marks
