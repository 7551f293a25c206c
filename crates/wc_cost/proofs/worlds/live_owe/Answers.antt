use Rattle.wc_cost.proofs.Owing.{live_owe}
use Rattle.wc_cost.proofs.worlds.live_owe.Goals as goal

pub returns : goal.returns
returns c = live_owe
