use Rattle.wc_expression.proofs.Order.{less_is, equal_is, greater_is}
use Rattle.wc_expression.proofs.laws.one_order.Goals as goal

pub returns-clause-less : goal.returns-clause-less
returns-clause-less c = less_is

pub returns-clause-equal : goal.returns-clause-equal
returns-clause-equal c = equal_is

pub returns-clause-greater : goal.returns-clause-greater
returns-clause-greater c = greater_is
