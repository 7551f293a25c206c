use Rattle.wc_value.proofs.Respelled.{spells_is}
use Rattle.wc_value.proofs.laws.one_spelling.Goals as goal

pub returns : goal.returns
returns c = spells_is
