use Rattle.wc_soundness.proofs.Called.{calls_make_these_worlds}
use Rattle.wc_soundness.proofs.submits.calls_make_these_worlds.Goals as goal

pub returns : goal.returns
returns c = calls_make_these_worlds
