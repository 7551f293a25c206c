use Rattle.wc_expression.proofs.White.{trims}
use Rattle.wc_expression.proofs.laws.one_trim.Goals as goal

pub returns : goal.returns
returns c = trims
