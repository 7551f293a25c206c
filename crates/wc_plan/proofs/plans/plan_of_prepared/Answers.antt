use Rattle.std.proofs.Common.{sym, subst}
use Rattle.wc_plan.specs.Submits.{IsReady, SubmitsReady}
use Rattle.wc_plan.proofs.Configured.{submission_ready}
use Rattle.wc_plan.proofs.plans.plan_of_prepared.Goals as goal

pub returns-in_ok-submission-in-Submits-clause-ready : goal.returns-in_ok-submission-in-Submits-clause-ready
returns-in_ok-submission-in-Submits-clause-ready c =
    subst IsReady (sym c.in_ok-submission-in-Submits.ensures)
    (submission_ready c.args.settings.now c.in-Submits.invocation (subst SubmitsReady c.in-Submits.is c.requires.ready) c.requires.limits)
