use Rattle.wc_attempts.proofs.Attempted.{mended_attempts, unhandled_attempts, spent_attempts}
use Rattle.wc_attempts.proofs.laws.worked_attempts.Goals as goal

pub returns-clause-mended : goal.returns-clause-mended
returns-clause-mended c = mended_attempts

pub returns-clause-unhandled : goal.returns-clause-unhandled
returns-clause-unhandled c = unhandled_attempts

pub returns-clause-spent : goal.returns-clause-spent
returns-clause-spent c = spent_attempts
