use Rattle.std.proofs.Common.{Some, ap, sym, ◌∙◌}
use Rattle.std.specs.Prelude.{option_map}
use Rattle.std.specs.Option.{option_copied}
use Rattle.wc_syntax.specs.Bare.{bare_definition}
use Rattle.wc_expression.specs.declared.outcome.Outcome.TheVariants.{Gives, Faults}
use Rattle.wc_semantics.specs.Requests.{request}
use Rattle.wc_core.proofs.Asking.{asks_so, runs_no_chain, runs_no_function, runs_something}
use Rattle.wc_core.proofs.needs.asks_with.Goals as goal

pub unreachable-requires : goal.unreachable-requires
unreachable-requires c =
    runs_no_function c.args.world.now.world c.args.process.now c.requires.asked _
    (sym c.definition_of.ensures ∙ ap (λ o. option_map bare_definition (option_copied o)) c.in-Some-Function.is
    ∙ ap (λ d. Some (bare_definition d)) c.in-Some-Function.field-0-is)

pub unreachable-requires-in-Some-Chain : goal.unreachable-requires-in-Some-Chain
unreachable-requires-in-Some-Chain c =
    runs_no_chain c.args.world.now.world c.args.process.now c.requires.asked _
    (sym c.definition_of.ensures ∙ ap (λ o. option_map bare_definition (option_copied o)) c.in-Some-Chain.is
    ∙ ap (λ d. Some (bare_definition d)) c.in-Some-Chain.field-0-is)

pub unreachable-requires-in-None : goal.unreachable-requires-in-None
unreachable-requires-in-None c =
    runs_something c.args.world.now.world c.args.process.now c.requires.asked
    (sym c.definition_of.ensures ∙ ap (λ o. option_map bare_definition (option_copied o)) c.in-None.is)

pub returns-in-Gives : goal.returns-in-Gives
returns-in-Gives c =
    let w = c.args.world.now.world in
    let r = c.args.process.now in
    let j = c.in-Some-Job.job in
    c.asks_task.ensures
    ∙ asks_so w r j c.args.task (Gives c.in-Gives.request) (sym c.in-Some-Job.ensures ∙ ap (λ d. Some (bare_definition d)) c.in-Some-Job.field-0-is)
    (ap (request j) (sym c.in_ok-inputs.ensures) ∙ sym c.in_ok-request-in-Some-Job.ensures ∙ c.in-Gives.is)

pub returns-in-Some-Job : goal.returns-in-Some-Job
returns-in-Some-Job c =
    let w = c.args.world.now.world in
    let r = c.args.process.now in
    let j = c.in-Some-Job.job in
    asks_so w r j c.args.task (Faults c.in-Faults.field-0) (sym c.in-Some-Job.ensures ∙ ap (λ d. Some (bare_definition d)) c.in-Some-Job.field-0-is)
    (ap (request j) (sym c.in_ok-inputs.ensures) ∙ sym c.in_ok-request-in-Some-Job.ensures ∙ c.in-Faults.is)
