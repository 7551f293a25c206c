use Rattle.wc_soundness.proofs.Meant.{fan_is_meant}
use Rattle.wc_soundness.proofs.small_worlds.fan_is_meant.Goals as goal

pub returns : goal.returns
returns c = fan_is_meant
