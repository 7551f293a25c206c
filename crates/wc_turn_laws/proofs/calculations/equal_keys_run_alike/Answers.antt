use Rattle.wc_turn_laws.proofs.Keys.{equal_keys_run_alike}
use Rattle.wc_turn_laws.proofs.calculations.equal_keys_run_alike.Goals as goal

pub returns : goal.returns
returns c = equal_keys_run_alike
