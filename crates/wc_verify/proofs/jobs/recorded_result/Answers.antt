use Rattle.std.proofs.Common.{◌≡◌, refl, sym, ap, subst, ◌∙◌}
use Rattle.std.specs.Prelude.{IsSome}
use Rattle.std.specs.Option.{option_copied}
use Rattle.std.proofs.lemmas.Result.{IfOk-weaker}
use Rattle.wc_machine.specs.Results.{result_of}
use Rattle.wc_verify.specs.Givers.{own_result, recorded_giver}
use Rattle.wc_verify.proofs.Given.{found_itself}
use Rattle.wc_verify.proofs.Lasts.{in_lasts, may_give_recorded}
use Rattle.wc_verify.proofs.LastResults.{none_recorded, recorded_exactly}
use Rattle.wc_verify.proofs.jobs.recorded_result.Goals as goal

pub bounds-lasts-process : goal.bounds-lasts-process
bounds-lasts-process c =
    let w = c.args.world.now.world in
    let process = c.args.process.now in
    in_lasts recorded_giver may_give_recorded w (c.reached_worlds_are_consistent.ensures w c.graph.ensures.reached) c.args.lasts.now c.requires.lasts process.node process c.requires.found

pub own_result-requires : goal.own_result-requires
own_result-requires c =
    let w = c.args.world.now.world in
    let consistent = c.reached_worlds_are_consistent.ensures w c.graph.ensures.reached in
    subst IsSome (sym (found_itself w consistent _ c.in-Some.last.now (sym c.record_of.ensures ∙ ap option_copied c.in-Some.is))) refl

pub returns-in-Some : goal.returns-in-Some
returns-in-Some c =
    let w = c.args.world.now.world in
    let process = c.args.process.now in
    let last = c.in-Some.last.now in
    let consistent = c.reached_worlds_are_consistent.ensures w c.graph.ensures.reached in
    IfOk-weaker c.own_result.result (λ own. own ≡ own_result w last) (λ found. found ≡ result_of w process.node)
    (λ own e. e ∙ sym (recorded_exactly w consistent c.args.lasts.now c.requires.lasts process c.requires.found last (sym c.record_of.ensures ∙ ap option_copied c.in-Some.is)))
    c.own_result.ensures

pub returns-in-None : goal.returns-in-None
returns-in-None c =
    let w = c.args.world.now.world in
    let consistent = c.reached_worlds_are_consistent.ensures w c.graph.ensures.reached in
    sym (none_recorded w consistent c.args.lasts.now c.requires.lasts c.args.process.now c.requires.found (sym c.record_of.ensures ∙ ap option_copied c.in-None.is))
