use Rattle.std.proofs.Common.{◌≡◌, List, [], ◌∷◌, ap, ◌∙◌}
use Rattle.wc_value.specs.declared.process.ProcessState.TheVariants as state
use Rattle.wc_state.specs.declared.record.Part.TheVariants as part
use Rattle.wc_world.specs.declared.change.Change.{Change}
use Rattle.wc_machine.specs.Calls.{bound}
use Rattle.wc_machine.specs.Refusals.{FullOf}
use Rattle.wc_changes.specs.Advances.{is_now}
use Rattle.wc_chain_turns.specs.Turned.{Gives}
use Rattle.wc_chain_turns.proofs.Turned.{gives_bound, full_as, if_ok, if_err}
use Rattle.wc_chain_turns.proofs.turn.bind_from.Goals as goal

pub returns-clause-gives : goal.returns-clause-gives
returns-clause-gives c =
    let w = c.args.world.now.world in
    let r = c.args.process.now in
    let x = c.args.checkpoint.now in
    let sum = c.bound_fuel-fuel.result in
    let next = c.in_ok-bind.field-0 in
    if_ok (λ (cs : List Change). cs ≡ is_now r state.Running sum (part.Chain next) ∷ []) (Gives w r) c.going.result
    (λ cs h. gives_bound w r c.requires.chain x c.requires.waits c.requires.stands cs
    (h ∙ (λ i. is_now r state.Running (c.bound_fuel-fuel.ensures i) (part.Chain ((c.in_ok-bind.ensures ∙ ap bound c.in_ok-copy.ensures) i)) ∷ [])))
    c.going.ensures.gives

pub returns-clause-refused : goal.returns-clause-refused
returns-clause-refused c =
    let w = c.args.world.now.world in
    let r = c.args.process.now in
    let x = c.args.checkpoint.now in
    let most = c.args.limits.now.max_nodes in
    let sum = c.bound_fuel-fuel.result in
    let next = c.in_ok-bind.field-0 in
    let means = λ (cs : List Change). cs ≡ is_now r state.Running sum (part.Chain next) ∷ [] in
    if_err (FullOf means most w) (FullOf (Gives w r) most w) c.going.result
    (λ e h. full_as means (Gives w r) most w
    (λ cs is. gives_bound w r c.requires.chain x c.requires.waits c.requires.stands cs
    (is ∙ (λ i. is_now r state.Running (c.bound_fuel-fuel.ensures i) (part.Chain ((c.in_ok-bind.ensures ∙ ap bound c.in_ok-copy.ensures) i)) ∷ [])))
    e h)
    c.going.ensures.refused
