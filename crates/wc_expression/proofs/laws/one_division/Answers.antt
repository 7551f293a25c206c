use Rattle.wc_expression.proofs.Division.{makes_whole, leaves_less, leaves_above, leaves_under}
use Rattle.wc_expression.proofs.laws.one_division.Goals as goal

pub returns-clause-whole : goal.returns-clause-whole
returns-clause-whole c = makes_whole

pub returns-clause-below : goal.returns-clause-below
returns-clause-below c = leaves_less

pub returns-clause-above : goal.returns-clause-above
returns-clause-above c = leaves_above

pub returns-clause-under : goal.returns-clause-under
returns-clause-under c = leaves_under
