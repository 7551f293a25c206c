use Rattle.std.proofs.Common.{◌≡◌, ℕ, ◌^◌, ◌<◌, List, ◌++◌, Option, Some, length, sym, ap, subst, ◌∙◌}
use Rattle.std.specs.Borrow.{Bor}
use Rattle.std.specs.Prelude.{reverse}
use Rattle.std.proofs.lemmas.List.{length-map}
use Rattle.wc_syntax.specs.declared.outline.Instr.{Instr, out-Instr}
use Rattle.wc_state.specs.declared.record.Frame.{Frame}
use Rattle.wc_state.specs.declared.record.Checkpoint.{Checkpoint}
use Rattle.wc_machine.specs.Advances.{popped, done, at_innermost, advance}
use Rattle.wc_machine.specs.Outlines.{Blocks, blocks}
use Rattle.wc_outline.specs.declared.answer.Next.{Next}
use Rattle.wc_outline.specs.Statements.{IsUnnoted, answered}
use Rattle.wc_outline.specs.Places.{Standing, behind, seen, front_of, standing}
use Rattle.wc_outline.specs.Shown.{shown}
use Rattle.wc_outline.proofs.Gathered.{if_ok}
use Rattle.wc_outline.proofs.Numbers.{fit_there}
use Rattle.wc_outline.proofs.Placed.{does_there}
use Rattle.wc_outline.proofs.advances.next_of.Goals as goal

-- where the chain stands in the blocks of its outline
there : (bs seen_bs : Blocks) (o : Option Standing) (fs : List Frame) → o ≡ standing seen_bs (popped seen_bs (reverse fs)) → seen_bs ≡ bs → o ≡ standing bs (popped bs (reverse fs))
there bs seen_bs o fs h whole = h ∙ (λ i. standing (whole i) (popped (whole i) (reverse fs)))

pub advance_at-requires-clause-numbers : goal.advance_at-requires-clause-numbers
advance_at-requires-clause-numbers c =
    let x = c.args.scene in
    let bs = blocks x.chain.now.outline in
    let whole : behind c.put_block.new.found ≡ bs
    = c.in_ok-put_block.ensures ∙ ap (λ (found : List (Bor (List Instr))). behind found ++ bs) c.new-blocks.ensures in
    let few : length bs < 2 ^ 32
    = subst (λ (n : ℕ). n < 2 ^ 32) (sym (length-map c.put_block.new.found (λ r. r.now)) ∙ ap (length {A = List Instr}) whole) c.place_of.ensures.few in
    fit_there x.chain.now.outline few (popped bs (reverse c.args.frames.now)) (seen c.in-Some.place)
    (there bs (behind c.put_block.new.found) (Some (seen c.in-Some.place)) c.args.frames.now c.in-Some.ensures.place whole)

pub returns-in-Some : goal.returns-in-Some
returns-in-Some c =
    let x = c.args.scene in
    let place = c.in-Some.place in
    let bs = blocks x.chain.now.outline in
    let frames = c.args.frames.now in
    let start = c.args.noted.now in
    let after = c.advance_at.new.noted in
    let whole : behind c.put_block.new.found ≡ bs
    = c.in_ok-put_block.ensures ∙ ap (λ (found : List (Bor (List Instr))). behind found ++ bs) c.new-blocks.ensures in
    let stands : Some (seen place) ≡ standing bs (popped bs (reverse frames))
    = there bs (behind c.put_block.new.found) (Some (seen place)) frames c.in-Some.ensures.place whole in
    if_ok (λ (n : Next). (k : Checkpoint) (bs' : Blocks) → IsUnnoted x k start → place.front.now ≡ front_of bs' place.frame
    → answered k.awaiting k.calls n after ≡ shown (done x.library.now x.chain.now x.depth start.env k bs' (out-Instr place.instr.now) place.frame (reverse place.outer.now)))
    (λ (n : Next). (k : Checkpoint) → IsUnnoted x k start → frames ≡ k.frames → answered k.awaiting k.calls n after ≡ shown (advance x.library.now x.chain.now x.depth start.env k))
    c.advance_at.result
    (λ n h k u e. let d = does_there x.library.now x.chain.now x.depth start.env k bs (popped bs (reverse frames)) (seen place) stands in
    h k bs u d.0 ∙ ap shown (sym d.1)
    ∙ ap (λ (fs : List Frame). shown (at_innermost x.library.now x.chain.now x.depth start.env k bs (popped bs (reverse fs)))) e)
    c.advance_at.ensures
