use Rattle.wc_turn_laws.proofs.Blind.{runs_see_numbers}
use Rattle.wc_turn_laws.proofs.runs.runs_see_numbers.Goals as goal

pub returns : goal.returns
returns c = runs_see_numbers
