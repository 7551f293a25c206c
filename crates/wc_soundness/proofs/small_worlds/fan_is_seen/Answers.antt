use Rattle.wc_soundness.proofs.Seen.{fan_is_seen}
use Rattle.wc_soundness.proofs.small_worlds.fan_is_seen.Goals as goal

pub returns : goal.returns
returns c = fan_is_seen
