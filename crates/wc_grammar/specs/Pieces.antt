-- Pieces of the readings of expressions, by themselves.
use Rattle.std.specs.Prelude.{ℕ, Option}
use Rattle.wc_syntax.specs.declared.expression.Name.{Name}
use Rattle.wc_syntax.specs.declared.expression.TwoOf.{TwoOf}
use Rattle.wc_syntax.specs.declared.expression.Expr.{Expr}
use Rattle.wc_syntax.specs.declared.expression.Form.TheVariants as form
use Rattle.wc_grammar.specs.Kinds.{W_INPUTS, S_DOT, S_CLOSE}
use Rattle.wc_grammar.specs.Rules.{Reader, seq, as_at, sign_at, pick_at}
use Rattle.wc_grammar.specs.Grammar.{truths, expr}
use Rattle.wc_grammar.specs.Reading.{name_at, number_at, text_at, member_at, part_at}

-- the reading of a number as an expression
abbrev pub number_alone_at : Reader Expr
number_alone_at = as_at number_at (λ x. expr x.at (form.Number x))

-- the reading of a text in quotes as an expression
abbrev pub text_alone_at : Reader Expr
text_alone_at = as_at text_at (λ x. expr x.at (form.Quoted x))

-- the reading of a bare name as an expression
abbrev pub name_alone_at : Reader Expr
name_alone_at = as_at name_at (λ x. expr x.at (form.Bare x))

-- the reading of a truth value as an expression
abbrev pub truth_at : Reader Expr
truth_at = as_at (pick_at truths) (λ b. expr b.1 (form.Truth b.0))

-- the reading of an input as an expression
abbrev pub input_at : Reader Expr
input_at = as_at (member_at W_INPUTS) (λ c. expr c.0 (form.Input c.0 c.1))

-- what is asked of the child with this name and index
abbrev pub of_child_at : ℕ → Name → Option Expr → Reader Expr
of_child_at at name index = seq (sign_at S_DOT) (λ _. as_at part_at (λ p. expr at (form.Child at name index p)))

-- the second argument of a word, and the closing bracket
abbrev pub second_at : Reader Expr → ℕ → TwoOf → Expr → Reader Expr
second_at e at op first = seq e (λ b. as_at (sign_at S_CLOSE) (λ _. expr at (form.Two op first b)))
