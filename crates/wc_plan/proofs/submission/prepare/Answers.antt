use Rattle.wc_plan.proofs.Submitted.{result_ready}
use Rattle.wc_plan.proofs.submission.prepare.Goals as goal

pub returns-clause-ready : goal.returns-clause-ready
returns-clause-ready o c = result_ready _ c.args.inputs.now c.args.name.now c.args.given.now c.in_ok-read.read c.prepare_read.result c.prepare_read.ensures.prepares
