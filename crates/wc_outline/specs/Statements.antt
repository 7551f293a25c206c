-- The statements of a step, as the machine has them, with what is answered of calls.
use Rattle.std.specs.Prelude.{◌≡◌, ℕ, zero, suc, ◌+◌, nat_le, Bool, true, false, if◌then◌else◌, List, [], ◌∷◌, ◌++◌, length, reverse, Option, Some, None}
use Rattle.wc_value.specs.Ascending.{put}
use Rattle.wc_value.specs.declared.process.ProcessState.{ProcessState}
use Rattle.wc_value.specs.declared.process.ProcessState.TheVariants.{Finished, Excepted}
use Rattle.wc_value.specs.declared.process.Reason.TheVariants.{Depth}
use Rattle.wc_value.specs.declared.value.Value.{Value}
use Rattle.wc_syntax.specs.declared.outline.CallStmt.{CallStmt}
use Rattle.wc_syntax.specs.declared.outline.Stmt.{Stmt}
use Rattle.wc_syntax.specs.declared.outline.Stmt.TheVariants as stmt
use Rattle.wc_state.specs.Context.{Pairs, with_set}
use Rattle.wc_state.specs.declared.context.CtxRef.TheVariants as held
use Rattle.wc_state.specs.declared.environment.Env.{Env}
use Rattle.wc_state.specs.declared.environment.Item.TheVariants as item
use Rattle.wc_state.specs.declared.record.Await.{Await}
use Rattle.wc_state.specs.declared.record.Checkpoint.{Checkpoint}
use Rattle.wc_state.specs.declared.record.Frame.{Frame}
use Rattle.wc_expression.specs.declared.outcome.Outcome.{Outcome}
use Rattle.wc_expression.specs.declared.outcome.Outcome.TheVariants.{Gives, Faults}
use Rattle.wc_expression.specs.Outcomes.{mapped}
use Rattle.wc_expression.specs.Val.{val}
use Rattle.wc_semantics.specs.Rules.{is_taken, status_of}
use Rattle.wc_semantics.specs.Meaning.{kinds_of, takes_of}
use Rattle.wc_semantics.specs.Run.{label}
use Rattle.wc_semantics.specs.Statements.{with_key}
use Rattle.wc_semantics.specs.Tables.{Label}
use Rattle.wc_machine.specs.Advances.{entered}
use Rattle.wc_machine.specs.Steps.{output}
use Rattle.wc_outline.specs.declared.answer.Next.{Next}
use Rattle.wc_outline.specs.declared.answer.Next.TheVariants as next
use Rattle.wc_outline.specs.declared.calls.Advanced.{Advanced}
use Rattle.wc_outline.specs.declared.calls.Advanced.TheVariants as advanced
use Rattle.wc_outline.specs.declared.calls.Argument.{Argument}
use Rattle.wc_outline.specs.declared.calls.Call.{Call}
use Rattle.wc_outline.specs.declared.statements.Came.{Came}
use Rattle.wc_outline.specs.declared.statements.Came.TheVariants.{On, Makes, Stops}
use Rattle.wc_outline.specs.declared.statements.Noted.{Noted}
use Rattle.wc_outline.specs.declared.statements.Scene.{Scene}
use Rattle.wc_outline.specs.Arguments.{taken_arguments}

-- A step ends its chain in a state, with the outputs that were set, or makes its calls.
pub data Stepped : Type 0 where
  stops : ProcessState → List (Label × ℕ) → Stepped
  makes : Pairs → List (Label × ℕ) → List Call → Stepped

-- what a step comes to: it stops in a state, or makes its calls
abbrev pub stepped : Option ProcessState → Noted → Stepped
stepped None s = makes s.ctx s.outputs s.calls
stepped (Some state) s = stops state s.outputs

-- what the statements behind one come to
abbrev pub comes : Came → Noted → (Noted → Stepped) → Stepped
comes On s f = f s
comes Makes s f = stepped None s
comes (Stops state) s f = stepped (Some state) s

-- what an exit comes to: with 0 the step goes on, else the chain ends with the status
abbrev pub left_by : ℕ → Came
left_by zero = Makes
left_by (suc n) = Stops (Finished (suc n))

-- what a step has noted, with a key set to a value
abbrev pub with_plain : List ℕ → Value → Noted → Noted
with_plain key v s = record { env = with_key key (item.Plain v) s.env; ctx = with_set s.ctx key (held.Plain v); outputs = s.outputs; calls = s.calls }

-- what a step has noted, with an output set to a node
abbrev pub with_output : List ℕ → ℕ → Noted → Noted
with_output name id s = record { env = s.env; ctx = s.ctx; outputs = put name id s.outputs; calls = s.calls }

-- what a step has noted, with one more call
abbrev pub with_call : Call → Noted → Noted
with_call c s = record { env = s.env; ctx = s.ctx; outputs = s.outputs; calls = s.calls ++ c ∷ [] }

-- what goes on with a value, or a step that stops with an exception
abbrev pub or_stops : {A : Type 0} → Outcome A → Noted → (A → Stepped) → Stepped
or_stops (Gives v) s f = f v
or_stops (Faults r) s f = stepped (Some (Excepted r)) s

-- a call with its label and its arguments
abbrev pub planned : CallStmt → ℕ → List (List ℕ × Argument) → Call
planned c number args = record { definition = c.callee.text; label = label c.key.text number; key = c.key.text; append = c.append; args = args }

module _ (x : Scene) where
  -- the call that a statement collects, labelled by its number among all calls of the process
  abbrev pub collected_in : CallStmt → Noted → Outcome Call
  collected_in c s =
      if nat_le 16 x.depth then Faults Depth
      else mapped (planned c (x.calls + length s.calls + 1)) (taken_arguments (takes_of x.library.now) c s.env)

  -- what the statements of a step come to, as the machine has it, with what is answered of calls
  abbrev pub statements_in : List Stmt → Noted → Stepped
  statements_in [] s = stepped None s
  statements_in (stmt.Ctx at key e ∷ ss) s = or_stops (val e s.env) s (λ v. statements_in ss (with_plain key.text v s))
  statements_in (stmt.Out at name e ∷ ss) s =
      or_stops (mapped (λ n. n.node) (output (kinds_of x.chain.now.head.outputs name.text) e s.env)) s (λ n. statements_in ss (with_output name.text n s))
  statements_in (stmt.Exit e ∷ ss) s = or_stops (is_taken e.condition s.env) s (λ b. if b then comes (left_by (status_of e)) s (statements_in ss) else statements_in ss s)
  statements_in (stmt.Call c ∷ ss) s = or_stops (collected_in c s) s (λ p. statements_in ss (with_call p s))

-- what a step comes to: its chain goes on or waits at these frames, with what it awaits and has called, or ends
abbrev pub came_to : List Await → ℕ → List Frame → Stepped → Advanced
came_to awaiting called fs (stops s outputs) = advanced.Ends s outputs
came_to awaiting called fs (makes ctx outputs []) = advanced.Goes (record { frames = fs; ctx = ctx; awaiting = awaiting; calls = called; outputs = outputs })
came_to awaiting called fs (makes ctx outputs (x ∷ xs)) =
    advanced.Submits (record { frames = fs; ctx = ctx; awaiting = awaiting; calls = called; outputs = outputs }) (x ∷ xs)

-- what is answered of an instruction, by what it came to and what was noted
abbrev pub answered : List Await → ℕ → Next → Noted → Advanced
answered awaiting called (next.Goes fs) s = came_to awaiting called fs (stepped None s)
answered awaiting called (next.Loops fs) s = advanced.Loops (record { frames = fs; ctx = s.ctx; awaiting = awaiting; calls = called; outputs = s.outputs })
answered awaiting called (next.Ends state) s = advanced.Ends state s.outputs

-- where an `if` leads from frames behind it, the innermost first
abbrev pub chosen_next : Outcome (Option ℕ) → List Frame → Next
chosen_next (Faults r) fs = next.Ends (Excepted r)
chosen_next (Gives block) fs = next.Goes (reverse (entered block fs))

-- where a `while` leads: to frames inside it, or to those behind it
abbrev pub turned_next : Outcome Bool → (inside outside : List Frame) → Next
turned_next (Faults r) inside outside = next.Ends (Excepted r)
turned_next (Gives true) inside outside = next.Loops (reverse inside)
turned_next (Gives false) inside outside = next.Goes (reverse outside)

-- where the statements of a step begin
abbrev pub unnoted : Env → Checkpoint → Noted
unnoted env c = record { env = env; ctx = c.ctx; outputs = c.outputs; calls = [] }

-- nothing is noted yet but what a checkpoint has
abbrev pub IsUnnoted : Scene → Checkpoint → Noted → Type 0
IsUnnoted x c s = (s ≡ unnoted s.env c) × (x.calls ≡ c.calls)
