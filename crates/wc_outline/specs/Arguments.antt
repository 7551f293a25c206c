-- The arguments of a call, evaluated one after the other, with what is known of their kinds.
use Rattle.std.specs.Prelude.{ℕ, Bool, false, if◌then◌else◌, List, [], ◌∷◌, Option, Some, None}
use Rattle.wc_value.specs.Ascending.{put}
use Rattle.wc_value.specs.declared.process.Reason.{Reason}
use Rattle.wc_value.specs.declared.process.Reason.TheVariants.{BadInput}
use Rattle.wc_value.specs.declared.value.Value.{Value}
use Rattle.wc_syntax.specs.Findings.{head_of}
use Rattle.wc_syntax.specs.declared.definition.Definition.{Definition}
use Rattle.wc_syntax.specs.declared.outline.CallArg.{CallArg}
use Rattle.wc_syntax.specs.declared.outline.CallStmt.{CallStmt}
use Rattle.wc_state.specs.declared.environment.Env.{Env}
use Rattle.wc_expression.specs.declared.outcome.Outcome.{Outcome}
use Rattle.wc_expression.specs.declared.outcome.Outcome.TheVariants.{Gives, Faults}
use Rattle.wc_expression.specs.Outcomes.{◌>>=◌}
use Rattle.wc_expression.specs.Val.{val}
use Rattle.wc_semantics.specs.Rules.{Values}
use Rattle.wc_semantics.specs.Meaning.{is_good}
use Rattle.wc_machine.specs.Steps as machine
use Rattle.wc_machine.specs.Steps.{value_of, values_in, named_node, or_plain, arguments}
use Rattle.wc_outline.specs.declared.arguments.Gathered.{Gathered}
use Rattle.wc_outline.specs.declared.calls.Argument.{Argument}
use Rattle.wc_outline.specs.Shown.{shown_argument, shown_arguments}

-- whether what is called has a port with this name that takes a value
abbrev pub takes_at : Option Definition → List ℕ → Value → Bool
takes_at None port v = false
takes_at (Some d) port v = is_good (head_of d).inputs (port, v)

-- what was gathered of arguments, with one more, and whether it fits
abbrev pub added : List ℕ → Argument → Bool → Gathered → Gathered
added port x fits g = record { args = put port x g.args; fit = put port fits g.fit }

-- an outcome, unless there was a reason before
abbrev pub unless : {A : Type 0} → Option Reason → Outcome A → Outcome A
unless None o = o
unless (Some r) o = Faults r

-- what was gathered, with one more argument as it is shown
abbrev pub with_argument : (List ℕ → Value → Bool) → List ℕ → machine.Argument → Gathered → Gathered
with_argument takes port x g = added port (shown_argument x) (takes port (value_of x)) g

-- these arguments, with those that follow, which are evaluated as they are written
abbrev pub arguments_from : (List ℕ → Value → Bool) → List CallArg → Env → Gathered → Outcome Gathered
arguments_from takes [] env g = Gives g
arguments_from takes (a ∷ rest) env g = or_plain (named_node a.value env) (val a.value env) >>= (λ x. arguments_from takes rest env (with_argument takes a.port.text x g))

-- the arguments, where all are good, else a bad input
abbrev pub judged : Bool → List (List ℕ × Argument) → Outcome (List (List ℕ × Argument))
judged good args = if good then Gives args else Faults BadInput

-- the arguments of a call, if what is called takes them
abbrev pub taken_arguments : (List ℕ → Values → Bool) → CallStmt → Env → Outcome (List (List ℕ × Argument))
taken_arguments takes c env = arguments c.args env [] >>= (λ args. judged (takes c.callee.text (values_in args)) (shown_arguments args))
