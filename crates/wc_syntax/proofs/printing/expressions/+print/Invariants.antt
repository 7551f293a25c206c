use Rattle.std.proofs.Common.{◌≡◌, ◌++◌, drop}
use Rattle.std.specs.Prelude.{string_bytes, codes}
use Rattle.wc_syntax.specs.Printing.{items, separated, expr_text}
use Rattle.wc_syntax.proofs.printing.expressions.+print.Given as goal

abbrev pub invariant-put_squares-loop-expr : goal.invariant-put_squares-loop-expr
invariant-put_squares-loop-expr l = string_bytes l.out ++ separated l.first expr_text (drop l.expr-index l.expr-items) ≡ string_bytes l.fn.out ++ codes "[" ++ items expr_text l.expr-items
