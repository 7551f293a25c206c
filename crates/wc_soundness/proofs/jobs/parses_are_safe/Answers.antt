use Rattle.wc_soundness.proofs.Parses.{parses_safe}
use Rattle.wc_soundness.proofs.jobs.parses_are_safe.Goals as goal

pub returns : goal.returns
returns c = parses_safe
