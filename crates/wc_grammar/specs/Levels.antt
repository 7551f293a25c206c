-- The levels of operators with two operands.
use Rattle.std.specs.Prelude.{ℕ, List}
use Rattle.wc_syntax.specs.declared.expression.BinaryOp.{BinaryOp}
use Rattle.wc_syntax.specs.declared.expression.Expr.{Expr}
use Rattle.wc_grammar.specs.declared.operators.Level.{Level}
use Rattle.wc_grammar.specs.declared.operators.Level.TheVariants as level
use Rattle.wc_grammar.specs.Rules.{Reader, chain_at}
use Rattle.wc_grammar.specs.Grammar.{ors, ands, compares, sums, products, binary}
use Rattle.wc_grammar.specs.Reading.{unaries_at, products_at, sums_at, compares_at, ands_at}

-- the operators of a level
abbrev pub operators : Level → List (ℕ × BinaryOp)
operators level.Products = products
operators level.Sums = sums
operators level.Compares = compares
operators level.Ands = ands
operators level.Ors = ors

-- what stands between operators of a level
abbrev pub operand_at : Level → ℕ → Reader Expr
operand_at level.Products n = unaries_at n
operand_at level.Sums n = products_at n
operand_at level.Compares n = sums_at n
operand_at level.Ands n = compares_at n
operand_at level.Ors n = ands_at n

-- operands with operators of a level between them
abbrev pub joined_at : Level → ℕ → Reader Expr
joined_at l n = chain_at n (operators l) binary (operand_at l n)
