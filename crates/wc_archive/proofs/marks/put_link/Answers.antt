use Rattle.std.proofs.Common.{[], ◌∷◌, ◌++◌, slice_index, sym, ap, ◌∙◌}
use Rattle.wc_archive.specs.Marks.{is_marked}
use Rattle.wc_archive.proofs.Marking.{kept_link, left_link}
use Rattle.wc_archive.proofs.marks.put_link.Goals as goal

pub returns-then-not-is_marked : goal.returns-then-not-is_marked
returns-then-not-is_marked c =
    left_link (slice_index c.args.numbers.now) c.args.below.now c.args.links.now c.args.link.now
    (sym (c.is_marked.ensures ∙ ap (is_marked c.args.below.now) c.its_process.ensures) ∙ c.if-not-is_marked.true)

pub returns : goal.returns
returns c =
    let l = c.args.link.now in
    kept_link (slice_index c.args.numbers.now) c.args.below.now c.args.links.now c.push.new.self l
    (sym (c.is_marked.ensures ∙ ap (is_marked c.args.below.now) c.its_process.ensures) ∙ c.if-not-is_marked.false)
    (c.in_ok-push.ensures.ok
    ∙ (λ i. c.args.links.now ++ (record { source = c.number_at.ensures i; target = c.number_at-2.ensures i; link = l.link; label = c.in_ok-label.ensures i }) ∷ []))
