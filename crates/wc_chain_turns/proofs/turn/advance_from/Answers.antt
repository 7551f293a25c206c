use Rattle.std.proofs.Common.{◌≡◌, ◌+◌, ◌≤◌, List, None, length, sym, ap, subst, ◌∙◌}
use Rattle.std.specs.Option.{option_copied}
use Rattle.wc_state.specs.declared.record.ProcessRecord.{ProcessRecord}
use Rattle.wc_world.specs.declared.change.Change.{Change}
use Rattle.wc_machine.specs.Refusals.{FullOf}
use Rattle.wc_changes.specs.Known.{known_at}
use Rattle.wc_changes.specs.Advances.{comes_to}
use Rattle.wc_chain_turns.specs.Turned.{Gives}
use Rattle.wc_chain_turns.proofs.Turned.{depth_low, is_known, may_advance, its_environment, environment_there, may_read, advance_read, calls_few, gives_advance, full_as, if_ok, if_err}
use Rattle.wc_chain_turns.proofs.turn.advance_from.Goals as goal

pub unreachable-requires : goal.unreachable-requires
unreachable-requires c =
    let w = c.args.world.now.world in
    let r = c.args.process.now in
    let none : known_at w.libraries r.library ≡ None = sym c.known_at.ensures ∙ ap option_copied c.in_default.is in
    is_known w r c.requires.chain none

pub context_read-requires : goal.context_read-requires
context_read-requires c = may_advance c.args.world.now.world c.args.process.now c.requires.chain c.in-Some.known.now (sym c.in-Some.ensures)

pub environment-requires : goal.environment-requires
environment-requires c =
    may_read c.args.world.now.world c.args.process.now c.requires.chain c.in-Some.known.now (sym c.in-Some.ensures) c.args.checkpoint c.requires.stands c.in_ok-read.read c.in_ok-read.ensures

pub advance-requires : goal.advance-requires
advance-requires c = may_advance c.args.world.now.world c.args.process.now c.requires.chain c.in-Some.known.now (sym c.in-Some.ensures)

pub come_to-requires-clause-depth : goal.come_to-requires-clause-depth
come_to-requires-clause-depth c =
    subst (λ (p : ProcessRecord). p.depth ≤ 16) (sym c.caller_of.ensures.process) (depth_low c.args.world.now.world c.args.process.now c.requires.chain)

pub come_to-requires-clause-earlier : goal.come_to-requires-clause-earlier
come_to-requires-clause-earlier c =
    calls_few c.args.world.now.world c.args.process.now c.requires.chain c.in-Some.known.now (sym c.in-Some.ensures) c.args.checkpoint c.requires.stands c.in_ok-env.env
    c.in_ok-advanced.advanced c.in_ok-advanced.ensures.exact

pub returns-clause-gives : goal.returns-clause-gives
returns-clause-gives c =
    let w = c.args.world.now.world in
    let r = c.args.process.now in
    let l = c.in-Some.known.now in
    let known = sym c.in-Some.ensures in
    let at = c.args.checkpoint in
    let h = c.requires.chain in
    let stands = c.requires.stands in
    let a = c.in_ok-advanced.advanced in
    let whole = its_environment w r h l known at stands in
    let exact = advance_read w r h l known at stands c.in_ok-read.read c.in_ok-read.ensures c.in_ok-env.env c.in_ok-env.ensures a c.in_ok-advanced.ensures.exact in
    let x = c.caller_of.result in
    if_ok (λ (cs : List Change). cs ≡ comes_to x (length w.nodes + 1) a) (Gives w r) c.come_to.result
    (gives_advance w r h l known at stands whole a exact (environment_there w r h l known at stands) x c.caller_of.ensures.process c.caller_of.ensures.library
    c.caller_of.ensures.caching)
    c.come_to.ensures.gives

pub returns-clause-refused : goal.returns-clause-refused
returns-clause-refused c =
    let w = c.args.world.now.world in
    let r = c.args.process.now in
    let l = c.in-Some.known.now in
    let known = sym c.in-Some.ensures in
    let at = c.args.checkpoint in
    let h = c.requires.chain in
    let stands = c.requires.stands in
    let a = c.in_ok-advanced.advanced in
    let whole = its_environment w r h l known at stands in
    let exact = advance_read w r h l known at stands c.in_ok-read.read c.in_ok-read.ensures c.in_ok-env.env c.in_ok-env.ensures a c.in_ok-advanced.ensures.exact in
    let most = c.args.limits.now.max_nodes in
    let x = c.caller_of.result in
    let means = λ (cs : List Change). cs ≡ comes_to x (length w.nodes + 1) a in
    if_err (FullOf means most w) (FullOf (Gives w r) most w) c.come_to.result
    (full_as means (Gives w r) most w
    (gives_advance w r h l known at stands whole a exact (environment_there w r h l known at stands) x c.caller_of.ensures.process c.caller_of.ensures.library
    c.caller_of.ensures.caching))
    c.come_to.ensures.refused
