use Rattle.std.proofs.Common.{◌≡◌, ℕ, List, sym, subst}
use Rattle.wc_world.specs.declared.change.Change.{Change}
use Rattle.wc_machine.specs.declared.answer.TaskAnswer.{TaskAnswer}
use Rattle.wc_machine.specs.declared.answer.TaskAnswer.TheVariants.{Nothing}
use Rattle.wc_machine.specs.Turns.{TurnGives}
use Rattle.wc_machine.specs.Refusals.{FullOf}
use Rattle.wc_machine.specs.declared.error.TurnError.{TurnError}
use Rattle.wc_core.proofs.Asking.{chain_answer}
use Rattle.std.proofs.lemmas.Result.{IfErr-weaker, IfOk-weaker}
use Rattle.wc_core.proofs.turns.turn_by_kind.Goals as goal

pub returns-in-Chain-clause-gives : goal.returns-in-Chain-clause-gives
returns-in-Chain-clause-gives c =
    let w = c.args.world.now.world in
    let r = c.args.process.now in
    let poll = c.args.limits.now.poll_ms in
    let now = c.args.now in
    let none : c.args.answer ≡ Nothing
    = chain_answer w r c.args.answer (c.reached_worlds_are_consistent.ensures w c.graph-graph.ensures.reached) c.requires.found c.in-Chain.is c.requires.fits in
    IfOk-weaker c.chain_turn.result (λ (cs : List Change). (p n : ℕ) → TurnGives p n w r Nothing cs) (TurnGives poll now w r c.args.answer)
    (λ cs gives. subst (λ (a : TaskAnswer). TurnGives poll now w r a cs) (sym none) (gives poll now)) c.chain_turn.ensures.gives

pub returns-in-Chain-clause-refused : goal.returns-in-Chain-clause-refused
returns-in-Chain-clause-refused c =
    let w = c.args.world.now.world in
    let r = c.args.process.now in
    let poll = c.args.limits.now.poll_ms in
    let most = c.args.limits.now.max_nodes in
    let now = c.args.now in
    let none : c.args.answer ≡ Nothing
    = chain_answer w r c.args.answer (c.reached_worlds_are_consistent.ensures w c.graph-graph.ensures.reached) c.requires.found c.in-Chain.is c.requires.fits in
    IfErr-weaker c.chain_turn.result (λ (e : TurnError). (p n : ℕ) → FullOf (TurnGives p n w r Nothing) most w e) (FullOf (TurnGives poll now w r c.args.answer) most w)
    (λ e full. subst (λ (a : TaskAnswer). FullOf (TurnGives poll now w r a) most w e) (sym none) (full poll now)) c.chain_turn.ensures.refused
