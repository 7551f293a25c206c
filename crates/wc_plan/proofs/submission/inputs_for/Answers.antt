use Rattle.wc_plan.proofs.Submitted.{result_bare}
use Rattle.wc_plan.proofs.submission.inputs_for.Goals as goal

pub returns-clause-inputs : goal.returns-clause-inputs
returns-clause-inputs o c =
    result_bare _ c.args.inputs.now c.args.name.now c.args.given.now c.library.result.now c.args.library.now c.inputs_among.result c.library.ensures.same c.inputs_among.ensures.inputs
