use Rattle.wc_machine.proofs.SubmittedAccepted.{submissions_are_accepted}
use Rattle.wc_machine.proofs.submission_laws.submissions_are_accepted.Goals as goal

pub returns : goal.returns
returns c = submissions_are_accepted
