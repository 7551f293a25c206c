-- The statements of a step. They take no fuel and make no call.
use Rattle.std.specs.Prelude.{ℕ, zero, suc, Bool, if◌then◌else◌, List, [], ◌∷◌, ◌++◌, Option}
use Rattle.std.specs.Str.{bytes_eq}
use Rattle.wc_value.specs.Ascending.{put}
use Rattle.wc_value.specs.declared.process.ProcessState.TheVariants.{Finished, Excepted}
use Rattle.wc_value.specs.declared.process.Reason.TheVariants.{WrongKind, Depth, BadInput}
use Rattle.wc_value.specs.declared.value.Kind.{Kind}
use Rattle.wc_value.specs.declared.value.Value.{Value}
use Rattle.wc_syntax.specs.Findings.{is_data}
use Rattle.wc_syntax.specs.declared.expression.Expr.{Expr}
use Rattle.wc_syntax.specs.declared.expression.Form.{out-Form}
use Rattle.wc_syntax.specs.declared.outline.CallArg.{CallArg}
use Rattle.wc_syntax.specs.declared.outline.CallStmt.{CallStmt}
use Rattle.wc_syntax.specs.declared.outline.Stmt.{Stmt}
use Rattle.wc_syntax.specs.declared.outline.Stmt.TheVariants as stmt
use Rattle.wc_state.specs.declared.environment.Env.{Env}
use Rattle.wc_state.specs.declared.environment.Item.{Item}
use Rattle.wc_state.specs.declared.environment.Item.TheVariants.{Plain}
use Rattle.wc_expression.specs.declared.outcome.Outcome.{Outcome}
use Rattle.wc_expression.specs.declared.outcome.Outcome.TheVariants.{Gives, Faults}
use Rattle.wc_expression.specs.Outcomes.{◌>>=◌}
use Rattle.wc_expression.specs.Val.{val, val_form}
use Rattle.wc_semantics.specs.Rules.{Values, fitting, is_taken, status_of}
use Rattle.wc_semantics.specs.declared.progress.Planned.{Planned}
use Rattle.wc_semantics.specs.declared.progress.Stepped.{Stepped}
use Rattle.wc_semantics.specs.declared.progress.Stepped.TheVariants.{Stops, Makes}

-- the entry of this key has this item, or there is one more
abbrev pub keyed : List ℕ → Item → List (List ℕ × Item) → List (List ℕ × Item)
keyed key item [] = (key, item) ∷ []
keyed key item (e ∷ es) = if bytes_eq e.0 key then (key, item) ∷ es else e ∷ keyed key item es

-- an environment with a key of the context set
abbrev pub with_key : List ℕ → Item → Env → Env
with_key key item env = record { inputs = env.inputs; ctx = keyed key item env.ctx }

-- ---- data that is passed

-- `inputs.N`, or a path that ends in `outputs.N`: what names data. It is passed as it is, and isn't held against the limits of
-- expressions.
abbrev pub names_data : Expr → Bool
names_data x = is_data (out-Form x.form)

-- the value of what an `out` names
abbrev pub datum : Expr → Env → Outcome Value
datum x env = if names_data x then val_form x.form env else Faults WrongKind

-- the value of an output, if it is of its port's kind
abbrev pub output : Option Kind → Expr → Env → Outcome Value
output port x env = datum x env >>= fitting port

-- the value of an argument
abbrev pub argument : Expr → Env → Outcome Value
argument x env = if names_data x then val_form x.form env else val x env

-- these values, with those of further arguments, which are evaluated as they are written
abbrev pub arguments : List CallArg → Env → Values → Outcome Values
arguments [] env values = Gives values
arguments (a ∷ rest) env values = do
  v ← argument a.value env
  arguments rest env (put a.port.text v values)

-- a call that a step has collected, with the inputs that it takes
abbrev pub planned : CallStmt → Values → Planned
planned c inputs = record { callee = c.callee.text; key = c.key.text; append = c.append; inputs = inputs }

-- ---- statements in order

-- goes on with a value, or stops by the reason
abbrev pub or_stops : {A : Type 0} → Outcome A → Env → Values → (A → Stepped) → Stepped
or_stops (Gives v) env outs f = f v
or_stops (Faults r) env outs f = Stops (Excepted r) env outs

-- A step that ends with a positive status ends its chain, which has the outputs that were set. One that ends with 0 makes the
-- calls that it collected.
abbrev pub exits : ℕ → List Planned → Env → Values → Stepped
exits zero ps env outs = Makes ps env outs
exits (suc n) ps env outs = Stops (Finished (suc n)) env outs

-- whether no call may be made, and whether a callee takes these inputs
module _ (deep : Bool) (takes : List ℕ → Values → Bool) where
  -- the call that a statement collects
  abbrev pub collected : CallStmt → Env → Outcome Planned
  collected c env = if deep then Faults Depth else (arguments c.args env [] >>= (λ vs. if takes c.callee.text vs then Gives (planned c vs) else Faults BadInput))

  -- with the kinds of the chain's output ports
  abbrev pub statements : (List ℕ → Option Kind) → List Stmt → List Planned → Env → Values → Stepped
  statements kinds [] ps env outs = Makes ps env outs
  statements kinds (stmt.Ctx at key x ∷ ss) ps env outs = or_stops (val x env) env outs (λ v. statements kinds ss ps (with_key key.text (Plain v) env) outs)
  statements kinds (stmt.Out at name x ∷ ss) ps env outs = or_stops (output (kinds name.text) x env) env outs (λ v. statements kinds ss ps env (put name.text v outs))
  statements kinds (stmt.Exit x ∷ ss) ps env outs =
      or_stops (is_taken x.condition env) env outs (λ b. if b then exits (status_of x) ps env outs else statements kinds ss ps env outs)
  statements kinds (stmt.Call c ∷ ss) ps env outs = or_stops (collected c env) env outs (λ p. statements kinds ss (ps ++ p ∷ []) env outs)
