use Rattle.wc_expression.proofs.Equals.{equal_is}
use Rattle.wc_expression.proofs.laws.one_equality.Goals as goal

pub returns : goal.returns
returns c = equal_is
