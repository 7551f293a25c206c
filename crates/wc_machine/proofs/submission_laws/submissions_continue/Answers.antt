use Rattle.wc_machine.proofs.SubmittedContinues.{submissions_continue}
use Rattle.wc_machine.proofs.submission_laws.submissions_continue.Goals as goal

pub returns : goal.returns
returns c = submissions_continue
