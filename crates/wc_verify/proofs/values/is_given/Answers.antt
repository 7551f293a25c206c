use Rattle.std.proofs.Common.{refl, sym, ap, subst, ◌∙◌}
use Rattle.std.specs.Prelude.{IsSome, IsTrue, ◌↔◌}
use Rattle.std.specs.Option.{option_copied}
use Rattle.std.proofs.lemmas.Result.{IfOk-weaker}
use Rattle.wc_machine.specs.Created.{IsGiven}
use Rattle.wc_verify.specs.Givers.{HasOutcome, giver}
use Rattle.wc_verify.proofs.Given.{found_itself}
use Rattle.wc_verify.proofs.Lasts.{in_lasts, may_give}
use Rattle.wc_verify.proofs.Wrong.{given_is, is_given, none_given}
use Rattle.wc_verify.proofs.values.is_given.Goals as goal

pub bounds-lasts-process : goal.bounds-lasts-process
bounds-lasts-process c =
    let w = c.args.world.now.world in
    let process = c.args.process.now in
    in_lasts giver may_give w (c.reached_worlds_are_consistent.ensures w c.graph.ensures.reached) c.args.lasts.now c.requires.lasts process.node process c.requires.found

pub given_alone-requires : goal.given_alone-requires
given_alone-requires c =
    let w = c.args.world.now.world in
    let consistent = c.reached_worlds_are_consistent.ensures w c.graph.ensures.reached in
    subst IsSome (sym (found_itself w consistent _ c.in-Some.last.now (sym c.record_of.ensures ∙ ap option_copied c.in-Some.is))) refl

pub returns-in_ok-given-in-Some : goal.returns-in_ok-given-in-Some
returns-in_ok-given-in-Some c =
    let w = c.args.world.now.world in
    let process = c.args.process.now in
    let last = c.in-Some.last.now in
    let consistent = c.reached_worlds_are_consistent.ensures w c.graph.ensures.reached in
    let there = sym c.record_of.ensures ∙ ap option_copied c.in-Some.is in
    IfOk-weaker c.has_outcome.result (λ has. IsTrue has ↔ HasOutcome w process c.in_ok-given-in-Some.given) (λ is. IsTrue is ↔ IsGiven w process)
    (λ has h. (
      λ yes. is_given w consistent c.args.lasts.now c.requires.lasts process c.requires.found last there (subst (HasOutcome w process) c.in_ok-given-in-Some.ensures (h.0 yes)),
      λ g. h.1 (subst (HasOutcome w process) (sym c.in_ok-given-in-Some.ensures) (given_is w consistent c.args.lasts.now c.requires.lasts process c.requires.found last there g)),
    ))
    c.has_outcome.ensures

pub returns-in-None : goal.returns-in-None
returns-in-None c =
    let w = c.args.world.now.world in
    let consistent = c.reached_worlds_are_consistent.ensures w c.graph.ensures.reached in (
      λ yes. absurd (cc),
      λ g. absurd (none_given w consistent c.args.lasts.now c.requires.lasts c.args.process.now c.requires.found (sym c.record_of.ensures ∙ ap option_copied c.in-None.is) g),
    )
