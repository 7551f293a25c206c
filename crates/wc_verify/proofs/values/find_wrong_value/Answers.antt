use Rattle.std.proofs.Common.{ap, subst, ◌∙◌, arith}
use Rattle.std.specs.Prelude.{MatchBool}
use Rattle.wc_verify.specs.Faults.{IsRight, IsWrong}
use Rattle.wc_verify.proofs.Wrong.{found_there, lowest, none_wrong, right_on}
use Rattle.wc_verify.proofs.values.find_wrong_value.Goals as goal

pub is_wrong-requires-clause-found : goal.is_wrong-requires-clause-found
is_wrong-requires-clause-found c =
    let w = c.args.world.now.world in
    found_there w (c.reached_worlds_are_consistent.ensures w c.graph.ensures.reached) c.as_slice-process-items.result.now
    (c.as_slice-process-items.ensures ∙ ap (λ p. p.0) c.records.ensures) c.loop-process.process-index _ c.process-item.result c.loop-process-test.true c.process-item.is

pub returns-then-wrong : goal.returns-then-wrong
returns-then-wrong c =
    let w = c.args.world.now.world in
    lowest w (c.reached_worlds_are_consistent.ensures w c.graph.ensures.reached) c.as_slice-process-items.result.now
    (c.as_slice-process-items.ensures ∙ ap (λ p. p.0) c.records.ensures) c.loop-process.process-index _ c.process-item.result c.loop-process-test.true c.process-item.is
    c.loop-process.invariant (subst (λ b. MatchBool b (IsWrong w c.process-item.result) (IsRight w c.process-item.result)) c.if-wrong.true c.in_ok-wrong.ensures)

pub loop-process-preserved : goal.loop-process-preserved
loop-process-preserved c =
    let w = c.args.world.now.world in
    right_on w (c.reached_worlds_are_consistent.ensures w c.graph.ensures.reached) c.as_slice-process-items.result.now
    (c.as_slice-process-items.ensures ∙ ap (λ p. p.0) c.records.ensures) c.loop-process.process-index _ c.process-item.result c.loop-process-test.true c.process-item.is
    c.loop-process.invariant (subst (λ b. MatchBool b (IsWrong w c.process-item.result) (IsRight w c.process-item.result)) c.if-wrong.false c.in_ok-wrong.ensures)

pub returns : goal.returns
returns c =
    let w = c.args.world.now.world in
    none_wrong w (c.reached_worlds_are_consistent.ensures w c.graph.ensures.reached) c.as_slice-process-items.result.now
    (c.as_slice-process-items.ensures ∙ ap (λ p. p.0) c.records.ensures) c.loop-process.process-index (omega arith) c.loop-process.invariant
