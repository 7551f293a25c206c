-- The rules of a function, or of the `parse` part of a job, run in order.
use Rattle.std.specs.Prelude.{ℕ, ℤ, pos, Bool, true, false, if◌then◌else◌, List, [], ◌∷◌, map, Option, Some, None}
use Rattle.std.specs.Int.{w32, saturate_unsigned}
use Rattle.std.specs.Str.{bytes_eq}
use Rattle.wc_value.specs.Ascending.{put}
use Rattle.wc_value.specs.declared.process.Reason.TheVariants.{WrongKind}
use Rattle.wc_value.specs.declared.value.Kind.{Kind}
use Rattle.wc_value.specs.declared.value.Value.{Value, out-Value}
use Rattle.wc_syntax.specs.declared.definition.Exit.{Exit}
use Rattle.wc_syntax.specs.declared.definition.Port.{Port}
use Rattle.wc_syntax.specs.declared.definition.Rule.{Rule}
use Rattle.wc_syntax.specs.declared.definition.Rule.TheVariants as rule
use Rattle.wc_syntax.specs.declared.expression.Expr.{Expr}
use Rattle.wc_state.specs.declared.environment.Env.{Env}
use Rattle.wc_state.specs.declared.environment.NodeValue.{NodeValue}
use Rattle.wc_expression.specs.declared.outcome.Outcome.{Outcome}
use Rattle.wc_expression.specs.declared.outcome.Outcome.TheVariants.{Gives, Faults}
use Rattle.wc_expression.specs.Outcomes.{◌>>=◌}
use Rattle.wc_expression.specs.Contents.{has_kind}
use Rattle.wc_expression.specs.Val.{val, holds}

-- values by name, as inputs or as outputs
abbrev pub Values : Type 0
Values = List (List ℕ × Value)

-- input values stand for no node
abbrev pub unnumbered : List ℕ × Value → List ℕ × NodeValue
unnumbered i = (i.0, record { node = 0; value = i.1 })

-- the environment of a calculation: its inputs, and no context
abbrev pub env_of : Values → Env
env_of inputs = record { inputs = map unnumbered inputs; ctx = [] }

-- the environment with one more name for a value
abbrev pub bound : List ℕ → Value → Env → Env
bound name v env = record { inputs = put name (record { node = 0; value = v }) env.inputs; ctx = env.ctx }

-- the kind of the port with this name
abbrev pub kind_of_port : List ℕ → List Port → Option Kind
kind_of_port name [] = None
kind_of_port name (p ∷ ps) = if bytes_eq p.name.text name then Some p.kind else kind_of_port name ps

-- whether a value is of a port's kind; of no port none is
abbrev pub fits_port : Option Kind → Value → Bool
fits_port None v = false
fits_port (Some k) v = has_kind k (out-Value v)

-- a value, if it is of its port's kind
abbrev pub fitting : Option Kind → Value → Outcome Value
fitting port v = if fits_port port v then Gives v else Faults WrongKind

-- the value of an output
abbrev pub output_of : Option Kind → Expr → Env → Outcome Value
output_of port e env = val e env >>= fitting port

-- whether an exit is taken: always, or where its condition holds
abbrev pub is_taken : Option Expr → Env → Outcome Bool
is_taken None env = Gives true
is_taken (Some condition) env = holds condition env

-- how rules end: with a status, and the outputs that were set
abbrev pub End : Type 0
End = ℕ × Values

-- the status that an exit's number is. Beyond 32 bits it is the nearest one; no checked library has such a number.
abbrev pub status_of : Exit → ℕ
status_of x = saturate_unsigned w32 x.status.value

-- the rules in order, after these outputs were set; a later output replaces an earlier one of its name
abbrev pub run_rules : List Port → List Rule → Env → Values → Outcome End
run_rules ports [] env outputs = Gives (0, outputs)
run_rules ports (rule.Let at name e ∷ rs) env outputs = do
  v ← val e env
  run_rules ports rs (bound name.text v env) outputs
run_rules ports (rule.Out at name e ∷ rs) env outputs = do
  v ← output_of (kind_of_port name.text ports) e env
  run_rules ports rs env (put name.text v outputs)
run_rules ports (rule.Exit x ∷ rs) env outputs = do
  taken ← is_taken x.condition env
  if taken then Gives (status_of x, outputs) else run_rules ports rs env outputs
