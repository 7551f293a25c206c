use Rattle.std.proofs.Common.{◌≡◌, ℕ, Bool, true, false, get_or, sym, subst, ◌∙◌}
use Rattle.std.specs.Prelude.{Some}
use Rattle.std.proofs.lemmas.Result.{on_ok_weaker}
use Rattle.wc_verify.specs.Faults.{HasResultAmong}
use Rattle.wc_verify.specs.Noted.{AreBytesOf}
use Rattle.wc_machine.specs.Recorded.{recorded_request}
use Rattle.wc_verify.proofs.Disagreeing.{noted_on, passed_over, some_result}
use Rattle.wc_verify.proofs.jobs.note_chosen.Goals as goal

pub returns-then-not-is_chosen : goal.returns-then-not-is_chosen
returns-then-not-is_chosen c =
    let w = c.args.world.now.world in
    let chosen : ℕ → Bool = λ pid. get_or c.args.chosen.now pid false in
    λ rs lower h. passed_over (HasResultAmong w chosen) w rs c.args.process.now c.args.firsts.now h
    (λ x q has asks. let no : false ≡ true = sym c.if-not-is_chosen.true ∙ c.is_chosen.ensures ∙ has.0 in absurd (cc no))

pub returns-in_default : goal.returns-in_default
returns-in_default c =
    let w = c.args.world.now.world in
    let chosen : ℕ → Bool = λ pid. get_or c.args.chosen.now pid false in
    λ rs lower h. passed_over (HasResultAmong w chosen) w rs c.args.process.now c.args.firsts.now h (λ x q has asks. absurd (c.in_default.not-Some x (c.in_ok-given.ensures ∙ has.1)))

pub returns-in_default-2 : goal.returns-in_default-2
returns-in_default-2 c =
    let w = c.args.world.now.world in
    let process = c.args.process.now in
    let chosen : ℕ → Bool = λ pid. get_or c.args.chosen.now pid false in
    λ rs lower h. passed_over (HasResultAmong w chosen) w rs process c.args.firsts.now h (λ x q has asks. subst (AreBytesOf (recorded_request w process)) c.in_default-2.is c.in_ok-request.ensures q asks)

pub returns : goal.returns
returns c =
    let w = c.args.world.now.world in
    let process = c.args.process.now in
    let given = c.in-Some.given in
    let asked = recorded_request w process in
    let chosen : ℕ → Bool = λ pid. get_or c.args.chosen.now pid false in
    on_ok_weaker c.note.result (λ step rs lower h.
    noted_on (HasResultAmong w chosen) w rs process given c.into_vec.result.items c.args.firsts.now c.note.new.self lower h (sym c.is_chosen.ensures ∙ c.if-not-is_chosen.false, sym c.in_ok-given.ensures ∙ c.in-Some.is)
    (λ y has. some_result y given (sym has.1 ∙ sym c.in_ok-given.ensures ∙ c.in-Some.is))
    (subst (λ bytes. AreBytesOf asked (Some bytes)) (sym c.into_vec.ensures.value) (subst (AreBytesOf asked) c.in-Some-2.is c.in_ok-request.ensures)) step)
    c.note.ensures
