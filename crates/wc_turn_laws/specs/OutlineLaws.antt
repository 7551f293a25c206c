-- Laws of the advance of a work chain.
use Rattle.std.specs.Prelude.{◌≡◌, ℕ, suc, ◌+◌, ◌-◌, List, [], ◌∷◌, map, All, Option}
use Rattle.wc_value.specs.Ascending.{Ascends}
use Rattle.wc_syntax.specs.declared.definition.Chain.{Chain}
use Rattle.wc_syntax.specs.declared.definition.Definition.{Definition}
use Rattle.wc_state.specs.declared.environment.Env.{Env}
use Rattle.wc_state.specs.declared.record.Checkpoint.{Checkpoint}
use Rattle.wc_semantics.specs.declared.progress.Flow.{Flow}
use Rattle.wc_semantics.specs.declared.progress.Flow.TheVariants.{Ends}
use Rattle.wc_semantics.specs.declared.progress.Planned.{Planned}
use Rattle.wc_semantics.specs.Meaning.{ended, around, within}
use Rattle.wc_semantics.specs.Run.{Around, ◌>->◌, spend, run, make_calls, label}
use Rattle.wc_semantics.specs.Tables.{Table, Kills}
use Rattle.wc_machine.specs.Advances.{Advanced, goes, loops, submits, ends, advance}
use Rattle.wc_machine.specs.Outlines.{blocks, left}
use Rattle.wc_machine.specs.Rest.{env_alone}
use Rattle.wc_machine.specs.Steps.{Call, values_in}
use Rattle.wc_world.specs.Trees.{NamedValues}
use Rattle.wc_turn_laws.specs.Instead.{MadeCalls}
use Rattle.wc_turn_laws.specs.View.{View, IsSeenRight, env_in, values_of, progress_in}

-- a call that a step makes, as one that a run plans: the values of its arguments
abbrev pub as_planned : Call → Planned
as_planned c = record { callee = c.definition; key = c.key; append = c.append; inputs = values_in c.args }

module _ (k : Chain) (v : View) (inputs : NamedValues) (earlier : MadeCalls) (a : Around) where
  -- the run of the instructions that a checkpoint leaves, from there on
  abbrev pub run_on : Checkpoint → ℕ → Flow
  run_on c n = run (left (blocks k.outline) c.frames) a n (progress_in v inputs earlier c)

  -- The run that remains after an advance from a checkpoint: where a loop turned with one less of the fuel, and where calls are submitted
  -- after these were made. A chain that ended has only what it ended with.
  abbrev pub remains : Checkpoint → Advanced → ℕ → Flow
  remains c (goes d) n = run_on d n
  remains c (loops d) n = spend n (run_on d)
  remains c (submits d calls) n = make_calls (map as_planned calls) a n (progress_in v inputs earlier d) >-> run (left (blocks k.outline) d.frames) a
  remains c (ends s outputs) n = Ends s n (record { env = env_alone (env_in v inputs c.ctx); outputs = values_of v outputs; calls = earlier })

-- The run from a checkpoint ends as the run that remains after one advance, for every table, every list of kills, every stop and every amount of
-- fuel; whatever the values of data and the called processes are, and whatever was called earlier.
abbrev pub AdvancesAreExact : Type 0
AdvancesAreExact = (library : List Definition) (k : Chain) (depth : ℕ) (v : View) (inputs : NamedValues) (c : Checkpoint) (earlier : MadeCalls)
    (table : Table) (cuts : Kills) (stop : Option ℕ) (name : List ℕ) (n : ℕ) → IsSeenRight v inputs
    → (a : Around) → a ≡ within k.head.outputs stop (around (16 - depth) library table cuts)
    → ended stop name k.head.outputs (run_on k v inputs earlier a c n)
    ≡ ended stop name k.head.outputs (remains k v inputs earlier a c (advance library k depth (env_in v inputs c.ctx) c) n)

-- each call has the label of its own number, where the first has this one
abbrev pub AreNumbered : ℕ → List Call → Type 0
AreNumbered n [] = Unit {0}
AreNumbered n (x ∷ xs) = (x.label ≡ label x.key n) × AreNumbered (suc n) xs

-- An advance to a checkpoint keeps how many calls were made and what is awaited, and numbers the calls that it submits from there on.
abbrev pub KeepsCalls : Checkpoint → Checkpoint → Type 0
KeepsCalls c d = (d.calls ≡ c.calls) × (d.awaiting ≡ c.awaiting)

-- an advance that goes on keeps the count of calls and what is awaited, and its calls are numbered from there on; of an end nothing is asked
abbrev pub IsNumbered : Checkpoint → Advanced → Type 0
IsNumbered c (goes d) = KeepsCalls c d
IsNumbered c (loops d) = KeepsCalls c d
IsNumbered c (submits d calls) = KeepsCalls c d × AreNumbered (c.calls + 1) calls
IsNumbered c (ends s outputs) = Unit {0}

-- The law: an advance that goes on keeps how many calls were made and what is awaited, and numbers further calls from there on
abbrev pub AdvancesNumberCalls : Type 0
AdvancesNumberCalls = (library : List Definition) (k : Chain) (depth : ℕ) (v : View) (inputs : NamedValues) (c : Checkpoint)
    → IsNumbered c (advance library k depth (env_in v inputs c.ctx) c)

-- Where the labels of the outputs ascend, those after an advance do, and so do the ports of the arguments of each call.
abbrev pub AreOrdered : Advanced → Type 0
AreOrdered (goes d) = Ascends d.outputs
AreOrdered (loops d) = Ascends d.outputs
AreOrdered (submits d calls) = Ascends d.outputs × All (λ x. Ascends x.args) calls
AreOrdered (ends s outputs) = Ascends outputs

-- The law: where the labels of the outputs ascend, those behind an advance do, and so do the ports of the arguments of its calls
abbrev pub AdvancesKeepOrder : Type 0
AdvancesKeepOrder = (library : List Definition) (k : Chain) (depth : ℕ) (env : Env) (c : Checkpoint) → Ascends c.outputs → AreOrdered (advance library k depth env c)
