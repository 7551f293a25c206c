use Rattle.std.proofs.Common.{◌∙◌, ap, sym, None}
use Rattle.wc_meaning.specs.Inputs.{least_after, wrong_inputs, missing_inputs}
use Rattle.wc_meaning.proofs.Least.{least_after_append}
use Rattle.wc_meaning.proofs.inputs.find_bad_input.Goals as goal

pub returns : goal.returns
returns c =
    let ports = c.args.ports.now in
    let missing = missing_inputs ports c.args.inputs.now in
    c.least_missing.ensures
    ∙ ap (λ b. least_after b missing) (c.least_wrong-wrong.ensures ∙ ap (λ is. least_after None (wrong_inputs ports is)) c.as_slice.ensures.value)
    ∙ sym (least_after_append None (wrong_inputs ports c.args.inputs.now) missing)
