use Rattle.std.proofs.Common.{sym, subst, ◌∙◌}
use Rattle.std.specs.Prelude.{IfOk}
use Rattle.std.specs.Option.{option_copied}
use Rattle.wc_machine.specs.Recorded.{request_by}
use Rattle.wc_verify.specs.Noted.{AreBytesOf}
use Rattle.wc_verify.proofs.Given.{asked_bare}
use Rattle.wc_verify.proofs.disagreement.asked.Goals as goal

pub returns : goal.returns
returns c =
    let d = option_copied c.definition_of.result in
    subst (λ o. IfOk c.bytes_asked.result (AreBytesOf o))
    (sym (asked_bare d c.in_ok-inputs.inputs) ∙ (λ i. request_by (c.definition_of.ensures i) (c.in_ok-inputs.ensures i))) c.bytes_asked.ensures
