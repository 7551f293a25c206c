-- The run that remains after what an advance answered.
use Rattle.std.specs.Prelude.{◌≡◌, ℕ, ◌-◌, List, map, Option}
use Rattle.wc_syntax.specs.declared.definition.Chain.{Chain}
use Rattle.wc_syntax.specs.declared.definition.Definition.{Definition}
use Rattle.wc_state.specs.declared.environment.Env.{Env}
use Rattle.wc_state.specs.declared.record.Checkpoint.{Checkpoint}
use Rattle.wc_semantics.specs.Meaning.{ended, around, within}
use Rattle.wc_semantics.specs.Run.{Around}
use Rattle.wc_semantics.specs.Tables.{Table, Kills}
use Rattle.wc_machine.specs.Trees.{NamedValues}
use Rattle.wc_machine.specs.Advances as machine
use Rattle.wc_machine.specs.Steps as stepping
use Rattle.wc_turn_laws.specs.Instead.{MadeCalls}
use Rattle.wc_turn_laws.specs.OutlineLaws.{run_on, remains}
use Rattle.wc_turn_laws.specs.View.{View, IsSeenRight, env_in}
use Rattle.wc_outline.specs.declared.calls.Advanced.{Advanced}
use Rattle.wc_outline.specs.declared.calls.Advanced.TheVariants as advanced
use Rattle.wc_outline.specs.declared.calls.Argument.{Argument}
use Rattle.wc_outline.specs.declared.calls.Argument.TheVariants as argument
use Rattle.wc_outline.specs.declared.calls.Call.{Call}

-- what was answered, with the value of each node that is passed to a call
abbrev pub with_value : View → Argument → stepping.Argument
with_value v (argument.Node id) = stepping.node (record { node = id; value = v.value id })
with_value v (argument.Plain x) = stepping.plain x

-- a call with the values of the nodes that it passes
abbrev pub with_values : View → Call → stepping.Call
with_values v c = record { definition = c.definition; label = c.label; key = c.key; append = c.append; args = map (λ a. (a.0, with_value v a.1)) c.args }

-- what an advance answered, with the values of the nodes that its calls pass
abbrev pub seen_by : View → Advanced → machine.Advanced
seen_by v (advanced.Goes c) = machine.goes c
seen_by v (advanced.Loops c) = machine.loops c
seen_by v (advanced.Submits c calls) = machine.submits c (map (with_values v) calls)
seen_by v (advanced.Ends s outputs) = machine.ends s outputs

-- what surrounds the run of a chain at a depth
abbrev pub around_at : List Definition → Chain → ℕ → Table → Kills → Option ℕ → Around
around_at library k depth table cuts stop = within k.head.outputs stop (around (16 - depth) library table cuts)

-- Where the environment is one of the checkpoint, the run from the checkpoint ends as the run that remains after an answer: for every table,
-- every list of kills, every stop and every amount of fuel, whatever the values of data and the called processes are, and whatever was called earlier.
abbrev pub EndsAlike : List Definition → Chain → ℕ → Env → Checkpoint → Advanced → Type 0
EndsAlike library k depth env c x = (v : View) (inputs : NamedValues) → env ≡ env_in v inputs c.ctx → IsSeenRight v inputs
    → (earlier : MadeCalls) (table : Table) (cuts : Kills) (stop : Option ℕ) (name : List ℕ) (n : ℕ)
    → ended stop name k.head.outputs (run_on k v inputs earlier (around_at library k depth table cuts stop) c n)
    ≡ ended stop name k.head.outputs (remains k v inputs earlier (around_at library k depth table cuts stop) c (seen_by v x) n)
