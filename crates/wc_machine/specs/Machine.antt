-- The machine: what each event makes of a world.
use Rattle.std.specs.Prelude.{◌≡◌, ℕ, Bool, true, false, if◌then◌else◌, List, [], ◌∷◌, Some, None}
use Rattle.wc_syntax.specs.declared.definition.Definition.{Definition}
use Rattle.wc_semantics.specs.Rules.{Values}
use Rattle.wc_state.specs.declared.record.Part.{Part}
use Rattle.wc_state.specs.declared.record.Part.TheVariants as part
use Rattle.wc_state.specs.declared.record.ProcessRecord.{ProcessRecord}
use Rattle.wc_world.specs.declared.change.Change.{Change}
use Rattle.wc_world.specs.declared.change.Change.TheVariants as change
use Rattle.wc_world.specs.World.{World}
use Rattle.wc_world.specs.Records.{find_record, has_ended}
use Rattle.wc_world.specs.Applied.{applied}
use Rattle.wc_machine.specs.declared.answer.TaskAnswer.{TaskAnswer}
use Rattle.wc_machine.specs.Kills.{kill_changes}
use Rattle.wc_machine.specs.Readiness.{is_ready}
use Rattle.wc_machine.specs.Submissions.{Submits}
use Rattle.wc_machine.specs.Turns.{TurnGives}

-- What may happen to a world: a submission, a turn of a process at a moment with what the transport answered, a pause, a play, a kill
pub data Event : Type 0 where
  -- a definition of a library is submitted with inputs; the names with caching on ascend
  submit : (library : List Definition) (caching : List (List ℕ)) (name : List ℕ) (inputs : Values) → Event
  -- a process has a turn at a moment, with what the transport answered
  turn : (pid : ℕ) → TaskAnswer → (now : ℕ) → Event
  pause : ℕ → Event
  play : ℕ → Event
  kill : ℕ → Event

-- ---- the pause mark

-- the change that sets a process's pause mark and its part, and leaves its state and its fuel
abbrev pub marked : ProcessRecord → Bool → Part → Change
marked r paused p = change.Set (record { pid = r.node; state = r.state; paused = paused; cached_from = 0; fuel = r.fuel; code = None; part = p })

-- a job that plays starts its task anew
abbrev pub renewed : Part → Part
renewed part.Fresh = part.Fresh
renewed (part.Chain c) = part.Chain c
renewed (part.Job j) = part.Job (record { task = j.task; fails = 0; due = 0 })
renewed part.Over = part.Over

-- the changes of a pause: the mark, or none where it is there
abbrev pub pause_changes : ProcessRecord → List Change
pause_changes r = if r.paused then [] else marked r true r.part ∷ []

-- the changes of a play: the mark is taken away and a job's failures are forgotten, or none where it isn't paused
abbrev pub play_changes : ProcessRecord → List Change
play_changes r = if r.paused then marked r false (renewed r.part) ∷ [] else []

-- ---- events

-- a live process
pub record IsLive (w : World) (r : ProcessRecord) : Type 0 where
  pub found : find_record r.node w.records ≡ Some r
  pub live : has_ended r.state ≡ false

-- The event may happen at the world, and these are its changes, where a job is polled after so many milliseconds.
pub data Leads (poll : ℕ) (w : World) : Event → List Change → Type 0 where
  submits : (library : List Definition) (caching : List (List ℕ)) (name : List ℕ) (inputs : Values) (cs : List Change)
      → Submits w library caching name inputs cs → Leads poll w (submit library caching name inputs) cs
  turns : (r : ProcessRecord) (answer : TaskAnswer) (now : ℕ) (cs : List Change) → find_record r.node w.records ≡ Some r
      → is_ready w now r ≡ true → TurnGives poll now w r answer cs → Leads poll w (turn r.node answer now) cs
  pauses : (r : ProcessRecord) → IsLive w r → Leads poll w (pause r.node) (pause_changes r)
  plays : (r : ProcessRecord) → IsLive w r → Leads poll w (play r.node) (play_changes r)
  kills : (r : ProcessRecord) → IsLive w r → Leads poll w (kill r.node) (kill_changes w r)

-- no changes leave the world, and others are one batch
abbrev pub after_changes : World → List Change → World
after_changes w [] = w
after_changes w (c ∷ cs) = applied w (c ∷ cs)

-- The world after an event.
pub record IsNext (poll : ℕ) (w : World) (e : Event) (v : World) : Type 0 where
  pub changes : List Change
  pub leads : Leads poll w e changes
  pub after : v ≡ after_changes w changes
