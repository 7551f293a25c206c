use Rattle.std.proofs.Common.{◌≡◌, refl, sym, ap, subst, ◌∙◌}
use Rattle.std.specs.Prelude.{Some, IsSome, ◌↔◌}
use Rattle.std.specs.Option.{option_copied}
use Rattle.std.proofs.lemmas.Result.{IfOk-weaker}
use Rattle.wc_machine.specs.Recorded.{HasResult}
use Rattle.wc_verify.specs.Givers.{own_result, result_giver}
use Rattle.wc_verify.proofs.Given.{found_itself}
use Rattle.wc_verify.proofs.Lasts.{in_lasts, may_give_result}
use Rattle.wc_verify.proofs.Results.{no_result, result_exactly}
use Rattle.wc_verify.proofs.disagreement.result_of.Goals as goal

pub bounds-lasts-process : goal.bounds-lasts-process
bounds-lasts-process c =
    let w = c.args.world.now.world in
    let process = c.args.process.now in
    in_lasts result_giver may_give_result w (c.reached_worlds_are_consistent.ensures w c.graph.ensures.reached) c.args.lasts.now c.requires.lasts process.node process c.requires.found

pub own_result-requires : goal.own_result-requires
own_result-requires c =
    let w = c.args.world.now.world in
    let consistent = c.reached_worlds_are_consistent.ensures w c.graph.ensures.reached in
    subst IsSome (sym (found_itself w consistent _ c.in-Some.last.now (sym c.record_of.ensures ∙ ap option_copied c.in-Some.is))) refl

pub returns-in-Some : goal.returns-in-Some
returns-in-Some c =
    let w = c.args.world.now.world in
    let process = c.args.process.now in
    let last = c.in-Some.last.now in
    let consistent = c.reached_worlds_are_consistent.ensures w c.graph.ensures.reached in
    IfOk-weaker c.own_result.result (λ own. own ≡ own_result w last) (λ found. (x : _) → HasResult w process.node x ↔ (found ≡ Some x))
    (λ own e x.
    let exactly = result_exactly w consistent c.requires.origins c.args.lasts.now c.requires.lasts process c.requires.found last (sym c.record_of.ensures ∙ ap option_copied c.in-Some.is) x in
    (λ has. e ∙ exactly.0 has, λ is. exactly.1 (sym e ∙ is)))
    c.own_result.ensures

pub returns-in-None : goal.returns-in-None
returns-in-None c =
    let w = c.args.world.now.world in
    let consistent = c.reached_worlds_are_consistent.ensures w c.graph.ensures.reached in
    λ x. (
      λ has. absurd (no_result w consistent c.requires.origins c.args.lasts.now c.requires.lasts c.args.process.now c.requires.found (sym c.record_of.ensures ∙ ap option_copied c.in-None.is) x has),
      λ is. absurd (cc),
    )
