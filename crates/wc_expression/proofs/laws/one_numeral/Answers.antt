use Rattle.wc_expression.proofs.Decimals.{decimal_is}
use Rattle.wc_expression.proofs.laws.one_numeral.Goals as goal

pub returns : goal.returns
returns c = decimal_is
