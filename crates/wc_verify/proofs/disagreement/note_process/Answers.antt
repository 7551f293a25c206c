use Rattle.std.proofs.Common.{sym, subst, ◌∙◌}
use Rattle.std.specs.Prelude.{Some}
use Rattle.std.proofs.lemmas.Result.{on_ok_weaker}
use Rattle.wc_verify.specs.Noted.{AreBytesOf}
use Rattle.wc_machine.specs.Recorded.{HasResult, recorded_request}
use Rattle.wc_verify.proofs.Disagreeing.{noted_on, passed_over, some_result}
use Rattle.wc_verify.proofs.disagreement.note_process.Goals as goal

pub returns-in_default : goal.returns-in_default
returns-in_default c =
    λ rs lower h. passed_over (HasResult c.args.world.now.world) c.args.world.now.world rs c.args.process.now c.args.firsts.now h (λ x q has asks. absurd (c.in_default.not-Some x ((c.in_ok-given.ensures x).0 has)))

pub returns-in_default-2 : goal.returns-in_default-2
returns-in_default-2 c =
    let w = c.args.world.now.world in
    let process = c.args.process.now in
    λ rs lower h. passed_over (HasResult w) w rs process c.args.firsts.now h (λ x q has asks. subst (AreBytesOf (recorded_request w process)) c.in_default-2.is c.in_ok-request.ensures q asks)

pub returns : goal.returns
returns c =
    let w = c.args.world.now.world in
    let process = c.args.process.now in
    let given = c.in-Some.given in
    let asked = recorded_request w process in
    on_ok_weaker c.note.result (λ step rs lower h.
    noted_on (HasResult w) w rs process given c.into_vec.result.items c.args.firsts.now c.note.new.self lower h ((c.in_ok-given.ensures given).1 c.in-Some.is)
    (λ y has. some_result y given (sym ((c.in_ok-given.ensures y).0 has) ∙ c.in-Some.is))
    (subst (λ bytes. AreBytesOf asked (Some bytes)) (sym c.into_vec.ensures.value) (subst (AreBytesOf asked) c.in-Some-2.is c.in_ok-request.ensures)) step)
    c.note.ensures
