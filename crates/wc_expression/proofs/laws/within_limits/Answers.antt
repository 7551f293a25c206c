use Rattle.wc_expression.proofs.Within.{val_bytes, val_levels}
use Rattle.wc_expression.proofs.laws.within_limits.Goals as goal

pub returns-clause-bytes : goal.returns-clause-bytes
returns-clause-bytes c = val_bytes

pub returns-clause-levels : goal.returns-clause-levels
returns-clause-levels c = val_levels
