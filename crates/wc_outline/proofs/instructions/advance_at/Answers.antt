use Rattle.std.proofs.Common.{◌≡◌, ◌∷◌, ℕ, List}
use Rattle.std.specs.Prelude.{reverse}
use Rattle.wc_syntax.specs.declared.outline.Instr.{out-Instr}
use Rattle.wc_state.specs.declared.record.Await.{Await}
use Rattle.wc_state.specs.declared.record.Checkpoint.{Checkpoint}
use Rattle.wc_machine.specs.Advances.{past, done}
use Rattle.wc_machine.specs.Outlines.{Blocks}
use Rattle.wc_outline.specs.declared.answer.Next.{Next}
use Rattle.wc_outline.specs.Places.{first_number, front_of}
use Rattle.wc_outline.specs.Shown.{shown}
use Rattle.wc_outline.specs.Statements.{IsUnnoted, answered, came_to, statements_in}
use Rattle.wc_outline.proofs.Gathered.{if_ok}
use Rattle.wc_outline.proofs.Numbers.{fit_if}
use Rattle.wc_outline.proofs.Placed.{step_next}
use Rattle.wc_outline.proofs.instructions.advance_at.Goals as goal

pub advance_if-requires-clause-numbers : goal.advance_if-requires-clause-numbers
advance_if-requires-clause-numbers c =
    let place = c.args.place in
    fit_if (first_number place.frame place.front.now) place.instr.now c.in-If.field-0 c.in-If.arms c.in-If.other c.in-If.is c.requires.numbers

pub returns-in-Step : goal.returns-in-Step
returns-in-Step c =
    let x = c.args.scene in
    let f = c.args.place.frame in
    let outer = c.args.place.outer.now in
    let front = c.args.place.front.now in
    let i = c.args.place.instr.now in
    let start = c.args.noted.now in
    let after = c.advance_step.new.noted in
    if_ok (λ (n : Next). (awaiting : List Await) (calls : ℕ) → answered awaiting calls n after ≡ came_to awaiting calls (reverse (past f ∷ reverse outer)) (statements_in x c.in-Step.step.stmts start))
    (λ (n : Next). (k : Checkpoint) (bs : Blocks) → IsUnnoted x k start → front ≡ front_of bs f → answered k.awaiting k.calls n after ≡ shown (done x.library.now x.chain.now x.depth start.env k bs (out-Instr i) f (reverse outer)))
    c.advance_step.result
    (λ n h k bs u e. step_next x k start.env bs f front outer i e c.in-Step.step n start after c.in-Step.is u.1 (h k.awaiting k.calls) u.0)
    c.advance_step.ensures
