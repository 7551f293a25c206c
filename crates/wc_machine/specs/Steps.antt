-- The statements of a step, with the nodes that they name.
use Rattle.std.specs.Prelude.{ℕ, zero, suc, ◌+◌, Bool, if◌then◌else◌, List, [], ◌∷◌, ◌++◌, length, Option, Some, None}
use Rattle.wc_value.specs.Ascending.{lookup, put}
use Rattle.wc_value.specs.declared.process.ProcessState.{ProcessState}
use Rattle.wc_value.specs.declared.process.ProcessState.TheVariants.{Finished, Excepted}
use Rattle.wc_value.specs.declared.process.Reason.TheVariants.{WrongKind, Depth, BadInput, MissingKey, NoOutput}
use Rattle.wc_value.specs.declared.value.Kind.{Kind}
use Rattle.wc_value.specs.declared.value.Value.{Value, out-Value}
use Rattle.wc_syntax.specs.declared.expression.ChildPart.{ChildPart}
use Rattle.wc_syntax.specs.declared.expression.ChildPart.TheVariants as asked
use Rattle.wc_syntax.specs.declared.expression.Expr.{Expr}
use Rattle.wc_syntax.specs.declared.expression.Form.{Form, out-Form}
use Rattle.wc_syntax.specs.declared.expression.Form.TheOpen.{Form-F}
use Rattle.wc_syntax.specs.declared.outline.CallArg.{CallArg}
use Rattle.wc_syntax.specs.declared.outline.CallStmt.{CallStmt}
use Rattle.wc_syntax.specs.declared.outline.Stmt.{Stmt}
use Rattle.wc_syntax.specs.declared.outline.Stmt.TheVariants as stmt
use Rattle.wc_state.specs.Context.{Pairs, with_set}
use Rattle.wc_state.specs.declared.context.CtxRef.TheVariants as held
use Rattle.wc_state.specs.declared.environment.Child.{Child}
use Rattle.wc_state.specs.declared.environment.Env.{Env}
use Rattle.wc_state.specs.declared.environment.Item.TheVariants.{Plain}
use Rattle.wc_state.specs.declared.environment.NodeValue.{NodeValue}
use Rattle.wc_expression.specs.declared.outcome.Outcome.{Outcome}
use Rattle.wc_expression.specs.declared.outcome.Outcome.TheVariants.{Gives, Faults}
use Rattle.wc_expression.specs.Contents.{item}
use Rattle.wc_expression.specs.Environment.{child, children}
use Rattle.wc_expression.specs.Outcomes.{◌>>=◌, found}
use Rattle.wc_expression.specs.Val.{val}
use Rattle.wc_semantics.specs.Rules.{Values, fits_port, is_taken, status_of}
use Rattle.wc_semantics.specs.Run.{label}
use Rattle.wc_semantics.specs.Statements.{with_key}
use Rattle.wc_semantics.specs.Tables.{Label}

-- what a call is given for a port: a node that is there, or a value that gets a node of its own
pub data Argument : Type 0 where
  node : NodeValue → Argument
  plain : Value → Argument

-- the value of an argument, be it a node or plain
abbrev pub value_of : Argument → Value
value_of (node n) = n.value
value_of (plain v) = v

-- a call that a step makes
pub record Call : Type 0 where
  pub definition : List ℕ
  pub label : Label
  pub key : List ℕ
  pub append : Bool
  -- in byte order of the ports
  pub args : List (List ℕ × Argument)

-- the values of arguments by port
abbrev pub values_in : List (List ℕ × Argument) → Values
values_in [] = []
values_in (a ∷ rest) = (a.0, value_of a.1) ∷ values_in rest

-- ---- nodes that are named

-- the output of a child that is asked for, with its node; status and `ok` are no nodes
abbrev pub output_node : ChildPart → Child → Outcome NodeValue
output_node (asked.Outputs name) c = found NoOutput (lookup name.text c.outputs)
output_node asked.Status c = Faults WrongKind
output_node asked.Ok c = Faults WrongKind

-- the node that an expression stands for where it is an input or an output of a child alone
abbrev pub node_in : Form-F Form Expr → Env → Option (Outcome NodeValue)
node_in (Form-F.Input at name) env = Some (found MissingKey (lookup name.text env.inputs))
node_in (Form-F.Child at name None (asked.Outputs l)) env = Some (child name.text env >>= output_node (asked.Outputs l))
node_in (Form-F.Child at name (Some e) (asked.Outputs l)) env = Some (do
  cs ← children name.text env
  i ← val e env
  c ← item cs (out-Value i)
  output_node (asked.Outputs l) c)
node_in _ env = None

-- the node that `inputs.N`, or a path that ends in `outputs.N`, names; any other expression names none
abbrev pub named_node : Expr → Env → Option (Outcome NodeValue)
named_node x env = node_in (out-Form x.form) env

-- the node, or a wrong kind where there is none
abbrev pub or_wrong : Option (Outcome NodeValue) → Outcome NodeValue
or_wrong None = Faults WrongKind
or_wrong (Some n) = n

-- a node whose value is of a port's kind, else a wrong kind
abbrev pub fitting_node : Option Kind → NodeValue → Outcome NodeValue
fitting_node port n = if fits_port port n.value then Gives n else Faults WrongKind

-- the node of an output, if its value is of its port's kind
abbrev pub output : Option Kind → Expr → Env → Outcome NodeValue
output port x env = or_wrong (named_node x env) >>= fitting_node port

-- an argument: the node where the expression is one, else its value
abbrev pub or_plain : Option (Outcome NodeValue) → Outcome Value → Outcome Argument
or_plain None v = v >>= (λ x. Gives (plain x))
or_plain (Some n) v = n >>= (λ x. Gives (node x))

-- these arguments, with those that follow, which are evaluated as they are written
abbrev pub arguments : List CallArg → Env → List (List ℕ × Argument) → Outcome (List (List ℕ × Argument))
arguments [] env args = Gives args
arguments (a ∷ rest) env args = do
  x ← or_plain (named_node a.value env) (val a.value env)
  arguments rest env (put a.port.text x args)

-- ---- statements in order

-- what a step has come to: the environment and the context with what it set, the outputs that were set, and the calls that it collected
pub record Noted : Type 0 where
  pub env : Env
  pub ctx : Pairs
  pub outputs : List (Label × ℕ)
  pub calls : List Call

-- A step ends its chain in a state, with the outputs that were set, or makes its calls.
pub data Stepped : Type 0 where
  stops : ProcessState → List (Label × ℕ) → Stepped
  makes : Pairs → List (Label × ℕ) → List Call → Stepped

-- what goes on with a value, or a step that stops with an exception
abbrev pub or_stops : {A : Type 0} → Outcome A → Noted → (A → Stepped) → Stepped
or_stops (Gives v) s f = f v
or_stops (Faults r) s f = stops (Excepted r) s.outputs

-- an exit: with 0 the step goes on to its calls, with another status the chain ends
abbrev pub exits : ℕ → Noted → Stepped
exits zero s = makes s.ctx s.outputs s.calls
exits (suc n) s = stops (Finished (suc n)) s.outputs

-- what a step has noted, with a key set to a value
abbrev pub with_plain : List ℕ → Value → Noted → Noted
with_plain key v s = record { env = with_key key (Plain v) s.env; ctx = with_set s.ctx key (held.Plain v); outputs = s.outputs; calls = s.calls }

-- what a step has noted, with an output set to a node
abbrev pub with_output : Label → ℕ → Noted → Noted
with_output name id s = record { env = s.env; ctx = s.ctx; outputs = put name id s.outputs; calls = s.calls }

-- what a step has noted, with one more call
abbrev pub with_call : Call → Noted → Noted
with_call c s = record { env = s.env; ctx = s.ctx; outputs = s.outputs; calls = s.calls ++ c ∷ [] }

-- how many calls were made before the step, whether none may be made, which inputs a callee takes, and the kinds of the output ports
module _ (before : ℕ) (deep : Bool) (takes : List ℕ → Values → Bool) (kinds : List ℕ → Option Kind) where
  -- the call that a statement collects, labelled by its number among all calls of the process
  abbrev pub planned : CallStmt → ℕ → List (List ℕ × Argument) → Call
  planned c number args = record { definition = c.callee.text; label = label c.key.text number; key = c.key.text; append = c.append; args = args }

  -- a call of a step with its arguments, or why there is none: too deep, or a bad input
  abbrev pub collected : CallStmt → Noted → Outcome Call
  collected c s =
      if deep then Faults Depth
      else (arguments c.args s.env [] >>= (λ args.
      if takes c.callee.text (values_in args) then Gives (planned c (before + length s.calls + 1) args) else Faults BadInput))

  -- what the statements of a step come to: keys and outputs that are set, and the calls that are collected, with the nodes that they name; or the state
  -- with which the chain stops
  abbrev pub statements : List Stmt → Noted → Stepped
  statements [] s = makes s.ctx s.outputs s.calls
  statements (stmt.Ctx at key x ∷ ss) s = or_stops (val x s.env) s (λ v. statements ss (with_plain key.text v s))
  statements (stmt.Out at name x ∷ ss) s = or_stops (output (kinds name.text) x s.env) s (λ n. statements ss (with_output name.text n.node s))
  statements (stmt.Exit x ∷ ss) s = or_stops (is_taken x.condition s.env) s (λ b. if b then exits (status_of x) s else statements ss s)
  statements (stmt.Call c ∷ ss) s = or_stops (collected c s) s (λ p. statements ss (with_call p s))
