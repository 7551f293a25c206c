-- Where the values of a call come from.
use Rattle.std.specs.Prelude.{ℕ, List, codes}
use Rattle.wc_syntax.specs.declared.expression.Expr.{Expr}
use Rattle.wc_restart.specs.Pieces.{input, output_of}
use Rattle.wc_restart.specs.declared.pieces.Source.{Source}
use Rattle.wc_restart.specs.declared.pieces.Source.TheVariants.{Inputs, Fix}

-- ctx.fix.outputs.name
abbrev pub of_fix : List ℕ → Expr
of_fix name = output_of (codes "fix") name

-- where the value of a port comes from: the inputs, or what the function mended
abbrev pub source_of : Source → List ℕ → Expr
source_of Inputs = input
source_of Fix = of_fix
