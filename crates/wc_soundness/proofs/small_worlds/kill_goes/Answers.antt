use Rattle.wc_soundness.proofs.Seen.{kill_goes}
use Rattle.wc_soundness.proofs.small_worlds.kill_goes.Goals as goal

pub returns : goal.returns
returns c = kill_goes
