use Rattle.std.proofs.Common.{◌≡◌, List, ◌++◌, Some, None, sym, ap, ◌∙◌}
use Rattle.std.specs.Borrow.{Bor}
use Rattle.std.specs.Prelude.{reverse}
use Rattle.wc_syntax.specs.Mentions.{Mention}
use Rattle.wc_syntax.specs.declared.outline.Instr.{Instr}
use Rattle.wc_state.specs.Context.{Pairs}
use Rattle.wc_machine.specs.Advances.{popped}
use Rattle.wc_machine.specs.Outlines.{blocks}
use Rattle.wc_outline.specs.Keys.{instr_mentions}
use Rattle.wc_outline.specs.Places.{behind, seen, standing}
use Rattle.wc_outline.specs.Reads.{standing_mentions, mentioned_of, context_read}
use Rattle.wc_outline.proofs.Entries.{nothing_read}
use Rattle.wc_outline.proofs.Gathered.{if_ok}
use Rattle.wc_outline.proofs.reads.read_by.Goals as goal

pub returns-in-Some : goal.returns-in-Some
returns-in-Some c =
    let bs = blocks c.args.chain.now.outline in
    let frames = c.args.checkpoint.now.frames in
    let ctx = c.args.checkpoint.now.ctx in
    let whole : behind c.put_block.new.found ≡ bs
    = c.in_ok-put_block.ensures ∙ ap (λ (found : List (Bor (List Instr))). behind found ++ bs) c.new-blocks.ensures in
    let stands : Some (seen c.in-Some.place) ≡ standing bs (popped bs (reverse frames))
    = c.in-Some.ensures.place ∙ (λ i. standing (whole i) (popped (whole i) (reverse (c.as_slice.ensures i)))) in
    if_ok (λ (read : Pairs). read ≡ mentioned_of (instr_mentions c.in-Some.place.instr.now) ctx) (λ (read : Pairs). read ≡ context_read c.args.chain.now c.args.checkpoint.now)
    c.mentioned_of.result
    (λ read h. h ∙ ap (λ (ms : List Mention). mentioned_of ms ctx) (ap standing_mentions stands))
    c.mentioned_of.ensures

pub returns : goal.returns
returns c =
    let bs = blocks c.args.chain.now.outline in
    let frames = c.args.checkpoint.now.frames in
    let ctx = c.args.checkpoint.now.ctx in
    let whole : behind c.put_block.new.found ≡ bs
    = c.in_ok-put_block.ensures ∙ ap (λ (found : List (Bor (List Instr))). behind found ++ bs) c.new-blocks.ensures in
    let stands : None ≡ standing bs (popped bs (reverse frames))
    = c.in-None.ensures.place ∙ (λ i. standing (whole i) (popped (whole i) (reverse (c.as_slice.ensures i)))) in
    c.new.ensures ∙ sym (nothing_read ctx) ∙ ap (λ (ms : List Mention). mentioned_of ms ctx) (ap standing_mentions stands)
