use Rattle.wc_expression.proofs.Parts.{stands_is}
use Rattle.wc_expression.proofs.laws.texts_around.Goals as goal

pub returns : goal.returns
returns c = stands_is
