use Rattle.wc_expression.proofs.Bare.{val_bare}
use Rattle.wc_expression.proofs.laws.no_offsets.Goals as goal

pub returns : goal.returns
returns c = val_bare
