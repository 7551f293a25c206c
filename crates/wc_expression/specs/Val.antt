-- The value of an expression in an environment.
use Rattle.std.specs.Prelude.{Bool, nat_le, ◌&&◌, if◌then◌else◌, List, [], ◌∷◌, length, Some, None}
use Rattle.wc_value.specs.Spelling.{spelling, depth}
use Rattle.wc_value.specs.declared.process.Reason.TheVariants.{TooLong}
use Rattle.wc_value.specs.declared.value.Value.{Value, out-Value}
use Rattle.wc_value.specs.declared.value.Value.TheVariants as value
use Rattle.wc_syntax.specs.declared.expression.Expr.{Expr, Expr-F, fold-Expr}
use Rattle.wc_syntax.specs.declared.expression.Form.{Form, fold-Form}
use Rattle.wc_syntax.specs.declared.expression.Form.TheOpen.{Form-F}
use Rattle.wc_state.specs.declared.environment.Env.{Env}
use Rattle.wc_expression.specs.declared.outcome.Outcome.{Outcome}
use Rattle.wc_expression.specs.declared.outcome.Outcome.TheVariants.{Gives, Faults}
use Rattle.wc_expression.specs.Outcomes.{◌>>=◌, mapped}
use Rattle.wc_expression.specs.Contents.{bool_of, item}
use Rattle.wc_expression.specs.Environment.{input, is_given, plain, child, children, count, asked}
use Rattle.wc_expression.specs.Operators.{operated, settles, prefixed, of_one, of_two}

-- a value that an expression may have: at most 4194304 canonical bytes, and 32 levels
unfoldable pub is_allowed : Value → Bool
is_allowed v = nat_le (length (spelling v)) 4194304 && nat_le (depth v) 32

-- a value past the limits is too long
abbrev pub sized : Outcome Value → Outcome Value
sized (Gives v) = if is_allowed v then Gives v else Faults TooLong
sized (Faults r) = Faults r

-- what an expression means: an outcome in each environment
abbrev pub Meant : Type 0
Meant = Env → Outcome Value

-- the values of several expressions, from left to right
abbrev pub all_of : List Meant → Env → Outcome (List Value)
all_of [] env = Gives []
all_of (m ∷ ms) env = do
  v ← m env
  vs ← all_of ms env
  Gives (v ∷ vs)

-- one level, with the meaning of what is inside; operands go from left to right
abbrev pub form : Form-F Meant Meant → Meant
form (Form-F.Number n) env = Gives (value.Int n.value)
form (Form-F.Quoted q) env = Gives (value.Text q.text)
form (Form-F.Truth b) env = Gives (value.Bool b)
form (Form-F.Bare name) env = input name.text env
form (Form-F.Input at name) env = input name.text env
form (Form-F.Plain at name) env = plain name.text env
form (Form-F.Child at name None part) env = do
  c ← child name.text env
  asked part c
form (Form-F.Child at name (Some e) part) env = do
  cs ← children name.text env
  i ← e env
  c ← item cs (out-Value i)
  asked part c
form (Form-F.Unary op a) env = do
  x ← a env
  prefixed op (out-Value x)
form (Form-F.Binary op a b) env = do
  x ← a env
  if settles op (out-Value x) then Gives x else (b env >>= operated op x)
form (Form-F.One word a) env = do
  x ← a env
  of_one word (out-Value x)
form (Form-F.Two word a b) env = do
  x ← a env
  y ← b env
  of_two word (out-Value x) (out-Value y)
form (Form-F.GivenBare name) env = Gives (value.Bool (is_given name.text env))
form (Form-F.GivenInput at name) env = Gives (value.Bool (is_given name.text env))
form (Form-F.Count at name) env = mapped value.Int (count name.text env)
form (Form-F.List es) env = mapped value.List (all_of es env)

-- the value of every expression is within the limits
abbrev pub limited : Expr-F Meant Meant → Meant
limited e env = sized (e.form env)

-- the value of an expression; offsets play no part
abbrev pub val : Expr → Meant
val = fold-Expr Meant Meant form limited

-- the value of a form, before it is held against the limits
abbrev pub val_form : Form → Meant
val_form = fold-Form Meant Meant form limited

-- whether a condition holds
abbrev pub holds : Expr → Env → Outcome Bool
holds condition env = val condition env >>= (λ v. bool_of (out-Value v))
