use Rattle.wc_soundness.proofs.FanTurns.{fan_goes}
use Rattle.wc_soundness.proofs.small_worlds.fan_goes.Goals as goal

pub returns : goal.returns
returns c = fan_goes
