use Rattle.std.proofs.Common.{◌<◌, sym, ap, subst, ◌∙◌}
use Rattle.wc_archive.specs.Marks.{is_marked}
use Rattle.wc_archive.proofs.Marking.{both_marked, both_size, same_size, unmarked_link}
use Rattle.wc_archive.proofs.marks.mark_ends.Goals as goal

pub returns-then-not-is_marked-clause-marks : goal.returns-then-not-is_marked-clause-marks
returns-then-not-is_marked-clause-marks c =
    unmarked_link c.args.marks.now.items c.args.below.now c.args.link.now
    (sym (c.is_marked.ensures ∙ ap (is_marked c.args.below.now) c.its_process.ensures) ∙ c.if-not-is_marked.true)

pub mark-requires-2 : goal.mark-requires-2
mark-requires-2 c =
    subst (λ n. c.args.link.now.target < n) (sym (same_size c.args.marks.now.items c.mark.new.marks.items c.args.link.now.source c.mark.ensures)) c.requires.target

pub returns-clause-size : goal.returns-clause-size
returns-clause-size c =
    both_size c.args.marks.now.items c.mark.new.marks.items c.mark-2.new.marks.items c.args.link.now.source c.args.link.now.target c.mark.ensures c.mark-2.ensures

pub returns-clause-marks : goal.returns-clause-marks
returns-clause-marks c =
    both_marked c.args.marks.now.items c.mark.new.marks.items c.mark-2.new.marks.items c.args.below.now c.args.link.now
    (sym (c.is_marked.ensures ∙ ap (is_marked c.args.below.now) c.its_process.ensures) ∙ c.if-not-is_marked.false) c.requires.source c.requires.target c.mark.ensures c.mark-2.ensures
