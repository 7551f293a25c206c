use Rattle.wc_turn_laws.proofs.Unnumbered.{values_forget_numbers}
use Rattle.wc_turn_laws.proofs.runs.values_forget_numbers.Goals as goal

pub returns : goal.returns
returns c = values_forget_numbers
