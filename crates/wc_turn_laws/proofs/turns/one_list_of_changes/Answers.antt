use Rattle.wc_turn_laws.proofs.OneList.{one_list}
use Rattle.wc_turn_laws.proofs.turns.one_list_of_changes.Goals as goal

pub returns : goal.returns
returns c = one_list
