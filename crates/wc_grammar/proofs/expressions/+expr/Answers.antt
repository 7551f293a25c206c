use Rattle.std.proofs.Common.{arith}
use Rattle.std.proofs.lemmas.Grind.{common_steps}
use Rattle.wc_grammar.proofs.expressions.+expr.Goals as goal

pub index-returns : goal.index-returns
index-returns t c = grind (arith, common_steps)

pub one_arg-returns : goal.one_arg-returns
one_arg-returns t c = grind (arith, common_steps)

pub second-returns : goal.second-returns
second-returns t c = grind (arith, common_steps)

pub brackets-returns : goal.brackets-returns
brackets-returns t c = grind (arith, common_steps)

pub listed-returns : goal.listed-returns
listed-returns t c = grind (arith, common_steps)
