-- Events that set one process, and go on with it.
use Rattle.std.specs.Prelude.{◌≡◌, ◌≢◌, ◌⊎◌, ◌+◌, ◌<◌, ℕ, Bool, true, false, List, [], ◌∷◌, Option, Some, None, ℤ}
use Rattle.wc_value.specs.declared.process.ProcessState.{ProcessState}
use Rattle.wc_value.specs.declared.process.ProcessState.TheVariants as state
use Rattle.wc_value.specs.declared.process.Request.{Request}
use Rattle.wc_expression.specs.declared.outcome.Outcome.TheVariants.{Gives}
use Rattle.wc_semantics.specs.declared.outcomes.Parsed.{Parsed}
use Rattle.wc_semantics.specs.Meaning.{leaf}
use Rattle.wc_semantics.specs.Tables.{Path, Table, Kills}
use Rattle.wc_semantics.specs.declared.progress.Answer.TheVariants.{Gave}
use Rattle.wc_state.specs.declared.record.Part.{Part}
use Rattle.wc_state.specs.declared.record.Part.TheVariants as part
use Rattle.wc_state.specs.declared.record.ProcessRecord.{ProcessRecord}
use Rattle.wc_world.specs.declared.change.Change.{Change}
use Rattle.wc_world.specs.declared.change.Change.TheVariants as change
use Rattle.wc_records.specs.declared.change.SetProcess.{SetProcess}
use Rattle.wc_world.specs.World.{World}
use Rattle.wc_world.specs.Accepted.{IsAccepted}
use Rattle.wc_world.specs.Applied.{applied, set}
use Rattle.wc_world.specs.Fits.{counted_calls, set_fits}
use Rattle.wc_world.specs.Records.{at_process, has_ended, is_calculation}
use Rattle.wc_machine.specs.Agreement.{Agrees}
use Rattle.wc_machine.specs.Continues.{Continues}
use Rattle.wc_machine.specs.Created.{GivenFor}
use Rattle.wc_machine.specs.Ends.{ends}
use Rattle.wc_machine.specs.Laws.{HasPlaces}
use Rattle.wc_machine.specs.Machine.{after_changes}
use Rattle.wc_machine.specs.Recorded.{recorded_request}
use Rattle.wc_machine.specs.Rest.{meant}
use Rattle.wc_machine.specs.Sound.{IsSound, is_job_part}
use Rattle.wc_machine.specs.Sources.{IsLowestSource}
use Rattle.wc_machine.specs.Submissions.{AreInputs}

-- a process is set to this state and part, with this mark and fuel, and to no source and no code
abbrev pub moved : ProcessRecord → ProcessState → Bool → ℕ → Part → SetProcess
moved r s paused fuel p = record { pid = r.node; state = s; paused = paused; cached_from = 0; fuel = fuel; code = None; part = p }

-- the one change, a Set, with which a process goes on
abbrev pub moves_to : ProcessRecord → ProcessState → Bool → ℕ → Part → List Change
moves_to r s paused fuel p = change.Set (moved r s paused fuel p) ∷ []

-- the world with one batch more, in which the process is set so
abbrev pub moved_world : World → SetProcess → World
moved_world w c = record {
  nodes = w.nodes;
  links = w.links;
  records = at_process c.pid (set (w.batches + 1) c) w.records;
  libraries = w.libraries;
  batches = w.batches + 1;
}

-- The Set fits: the process goes on in a state and with a part that fit it, and its part counts as many calls as before.
pub record IsFittingMove (w : World) (r : ProcessRecord) (c : SetProcess) : Type 0 where
  pub fits : set_fits w c r ≡ true
  pub goes_on : has_ended c.state ≡ false
  pub counted : counted_calls c.part ≡ counted_calls r.part

-- a part without a checkpoint, of a process that hasn't ended
abbrev pub is_bare : Part → Bool
is_bare part.Fresh = true
is_bare (part.Chain c) = false
is_bare (part.Job j) = true
is_bare part.Over = false

-- A process with one part or the other has as much before it: they are one, or neither has a checkpoint.
abbrev pub AreAlike : Part → Part → Type 0
AreAlike p q = (p ≡ q) ⊎ ((is_bare p ≡ true) × (is_bare q ≡ true))

-- What a process has before it stays: its part is as good as the one before, it doesn't run or become created, a job has a request, and
-- one that starts takes no source.
pub record StaysOnTrack (w : World) (r : ProcessRecord) (s : ProcessState) (p : Part) : Type 0 where
  pub alike : AreAlike r.part p
  pub running : s ≡ state.Running → r.state ≡ state.Running
  pub created : s ≡ state.Created → r.state ≡ state.Created
  pub asked : is_job_part p ≡ true → (q : Request) × (recorded_request w r ≡ Some (Gives q))
  pub starts : r.state ≡ state.Created → s ≢ state.Created → is_calculation r.kind ≡ true → r.caching ≡ true → IsLowestSource w (w.batches + 1) r None

-- The changes are accepted where there is room for one batch more, the world after them is sound, and it continues the one before.
pub record AreSafe (w : World) (cs : List Change) : Type 0 where
  pub accepted : cs ≢ [] → w.batches < 4000000000 → IsAccepted w cs
  pub sound : w.batches < 4000000000 → IsSound (after_changes w cs)
  pub continues : Continues w (after_changes w cs)

-- ---- ends of calculations

-- The end of a live calculation without source is right: it ends, isn't killed, has outputs that ascend and are at most 32 deep, a lowest
-- source was none where it starts with it, and in the world after it this is given for it, and is what it means with the fuel that is kept.
pub record EndsRightly (w : World) (r : ProcessRecord) (p : Parsed) (code : Option ℤ) : Type 0 where
  pub over : has_ended p.state ≡ true
  pub alive : p.state ≢ state.Killed
  pub outputs : AreInputs p.outputs
  pub starts : r.state ≡ state.Created → r.caching ≡ true → IsLowestSource w (w.batches + 1) r None
  pub given : GivenFor (applied w (ends w r p None code)) r.node p
  pub means : (table : Table) (cuts : Kills) → Agrees table (applied w (ends w r p None code)) r.node → cuts [] ≡ None
      → (asked : List (Path × Request)) × (m : ℕ) × (meant w r table cuts r.fuel ≡ Some (Gave (leaf r.definition p asked) m))

-- The changes are accepted where there is room for nodes up to this number and for one batch more, the world after them is sound, and it
-- continues the one before.
pub record AreSafeWithin (last : ℕ) (w : World) (cs : List Change) : Type 0 where
  pub accepted : HasPlaces w last → IsAccepted w cs
  pub sound : HasPlaces w last → IsSound (applied w cs)
  pub continues : Continues w (applied w cs)
