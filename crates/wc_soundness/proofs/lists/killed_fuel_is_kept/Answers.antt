use Rattle.wc_soundness.proofs.KilledFuel.{killed_fuel_is_kept}
use Rattle.wc_soundness.proofs.lists.killed_fuel_is_kept.Goals as goal

pub returns : goal.returns
returns c = killed_fuel_is_kept
