use Rattle.std.proofs.Common.{sym}
use Rattle.wc_expression.proofs.Allowed.{allowed_is}
use Rattle.wc_plan.proofs.given.is_allowed.Goals as goal

pub returns : goal.returns
returns c = sym (allowed_is _ _ c.is_within.ensures)
