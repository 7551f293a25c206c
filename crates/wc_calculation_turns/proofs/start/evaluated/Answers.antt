use Rattle.std.proofs.Common.{Some, ap, sym, ◌∙◌}
use Rattle.std.specs.Prelude.{option_map}
use Rattle.std.specs.Option.{option_copied}
use Rattle.std.proofs.lemmas.Result.{IfOk-weaker}
use Rattle.wc_syntax.specs.Bare.{bare_definition}
use Rattle.wc_semantics.specs.Outcomes.{calculated}
use Rattle.wc_semantics.specs.Requests.{request}
use Rattle.wc_calculation_turns.specs.Courses.{begun}
use Rattle.wc_calculation_turns.proofs.FirstTurns.{TurnsTo, is_begun, is_calculated, runs_no_chain, runs_something}
use Rattle.wc_calculation_turns.proofs.start.evaluated.Goals as goal

pub returns-in-Some-Function : goal.returns-in-Some-Function
returns-in-Some-Function c =
    let f = c.in-Some-Function.function in
    is_calculated c.args.world.now.world c.args.process.now c.requires.starts c.requires.source f c.in_ok-calculate-in-Some-Function.field-0 c.own_end.result
    (sym c.in-Some-Function.ensures ∙ ap (λ d. Some (bare_definition d)) c.in-Some-Function.field-0-is) (c.in_ok-calculate-in-Some-Function.ensures ∙ ap (calculated f) c.in_ok-inputs.ensures) c.own_end.ensures

pub returns-in-Some-Job : goal.returns-in-Some-Job
returns-in-Some-Job c =
    let w = c.args.world.now.world in
    let r = c.args.process.now in
    let j = c.in-Some-Job.job in
    IfOk-weaker c.begun.result _ (TurnsTo w r c.requires.starts)
    (λ course h. is_begun w r c.requires.starts c.requires.source j course (sym c.in-Some-Job.ensures ∙ ap (λ d. Some (bare_definition d)) c.in-Some-Job.field-0-is) (h ∙ ap (λ inputs. begun (request j inputs)) c.in_ok-inputs.ensures))
    c.begun.ensures

pub unreachable-requires : goal.unreachable-requires
unreachable-requires c =
    let w = c.args.world.now.world in
    runs_no_chain w c.args.process.now (c.reached_worlds_are_consistent.ensures w c.graph.ensures.reached) c.requires.starts _
    (sym c.definition_of.ensures ∙ ap (λ o. option_map bare_definition (option_copied o)) c.in-Some-Chain.is
    ∙ ap (λ d. Some (bare_definition d)) c.in-Some-Chain.field-0-is)

pub unreachable-requires-in-None : goal.unreachable-requires-in-None
unreachable-requires-in-None c =
    let w = c.args.world.now.world in
    runs_something w c.args.process.now (c.reached_worlds_are_consistent.ensures w c.graph.ensures.reached) c.requires.starts
    (sym c.definition_of.ensures ∙ ap (λ o. option_map bare_definition (option_copied o)) c.in-None.is)
