use Rattle.std.proofs.Common.{Some, ap, sym, subst, ◌∙◌}
use Rattle.std.specs.Prelude.{option_map}
use Rattle.std.specs.Option.{option_copied}
use Rattle.std.proofs.lemmas.Result.{IfOk-weaker}
use Rattle.wc_syntax.specs.Bare.{bare_definition}
use Rattle.wc_semantics.specs.Requests.{request}
use Rattle.wc_semantics.specs.Rules.{Values}
use Rattle.wc_machine.specs.Turns.{TurnGives}
use Rattle.wc_calculation_turns.specs.Courses.{LeadsOn, course_changes}
use Rattle.wc_calculation_turns.proofs.Jobs.{gave_up, led_on, runs_no_chain, runs_no_function, runs_something, task_fits}
use Rattle.wc_calculation_turns.proofs.wait.waited.Goals as goal

pub led-requires-clause-fits : goal.led-requires-clause-fits
led-requires-clause-fits c =
    let a = c.args in
    let w = a.world.now.world in
    let j = c.in-Some-Job.job in
    task_fits w a.process.now a.part c.requires.waits (c.reached_worlds_are_consistent.ensures w c.graph.ensures.reached) j (sym c.in-Some-Job.ensures ∙ ap (λ d. Some (bare_definition d)) c.in-Some-Job.field-0-is) a.answer
    c.requires.fits a.poll a.now c.in-Gives.field-0
    (ap (request j) (sym c.in_ok-inputs.ensures) ∙ sym c.in_ok-request_of-in-Some-Job.ensures ∙ c.in-Gives.is)

pub unreachable-requires : goal.unreachable-requires
unreachable-requires c =
    let w = c.args.world.now.world in
    runs_no_function w c.args.process.now c.args.part c.requires.waits (c.reached_worlds_are_consistent.ensures w c.graph.ensures.reached) _
    (sym c.definition_of.ensures ∙ ap (λ o. option_map bare_definition (option_copied o)) c.in-Some-Function.is
    ∙ ap (λ d. Some (bare_definition d)) c.in-Some-Function.field-0-is)

pub unreachable-requires-in-Some-Chain : goal.unreachable-requires-in-Some-Chain
unreachable-requires-in-Some-Chain c =
    let w = c.args.world.now.world in
    runs_no_chain w c.args.process.now c.args.part c.requires.waits (c.reached_worlds_are_consistent.ensures w c.graph.ensures.reached) _
    (sym c.definition_of.ensures ∙ ap (λ o. option_map bare_definition (option_copied o)) c.in-Some-Chain.is
    ∙ ap (λ d. Some (bare_definition d)) c.in-Some-Chain.field-0-is)

pub unreachable-requires-in-None : goal.unreachable-requires-in-None
unreachable-requires-in-None c =
    let w = c.args.world.now.world in
    runs_something w c.args.process.now c.args.part c.requires.waits (c.reached_worlds_are_consistent.ensures w c.graph.ensures.reached)
    (sym c.definition_of.ensures ∙ ap (λ o. option_map bare_definition (option_copied o)) c.in-None.is)

pub returns-in-Gives : goal.returns-in-Gives
returns-in-Gives c =
    let a = c.args in
    let w = a.world.now.world in
    let r = a.process.now in
    let j = c.in-Some-Job.job in
    IfOk-weaker c.led.result (LeadsOn j c.in_ok-inputs.inputs a.part a.now a.poll a.answer) (λ course. TurnGives a.poll a.now w r a.answer (course_changes w r course))
    (λ course h. led_on w r a.part c.requires.waits (c.reached_worlds_are_consistent.ensures w c.graph.ensures.reached) j (sym c.in-Some-Job.ensures ∙ ap (λ d. Some (bare_definition d)) c.in-Some-Job.field-0-is) a.answer
    c.requires.fits a.poll a.now c.in-Gives.field-0
    (ap (request j) (sym c.in_ok-inputs.ensures) ∙ sym c.in_ok-request_of-in-Some-Job.ensures ∙ c.in-Gives.is) course
    (subst (λ (i : Values). LeadsOn j i a.part a.now a.poll a.answer course) c.in_ok-inputs.ensures h))
    c.led.ensures

pub returns-in-Faults : goal.returns-in-Faults
returns-in-Faults c =
    let a = c.args in
    let w = a.world.now.world in
    let j = c.in-Some-Job.job in
    gave_up w a.process.now a.part c.requires.waits (c.reached_worlds_are_consistent.ensures w c.graph.ensures.reached) j (sym c.in-Some-Job.ensures ∙ ap (λ d. Some (bare_definition d)) c.in-Some-Job.field-0-is) a.answer
    c.requires.fits a.poll a.now c.in-Faults.reason c.excepts.result
    (ap (request j) (sym c.in_ok-inputs.ensures) ∙ sym c.in_ok-request_of-in-Some-Job.ensures ∙ c.in-Faults.is) c.excepts.ensures
