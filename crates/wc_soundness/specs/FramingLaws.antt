-- Laws of events that touch one process.
use Rattle.std.specs.Prelude.{◌≡◌, ◌≢◌, ◌⊎◌, ℕ, ℤ, ◌<◌, true, false, List, length, Option, Some}
use Rattle.wc_syntax.specs.declared.definition.Definition.{Definition}
use Rattle.wc_state.specs.declared.record.ProcessRecord.{ProcessRecord}
use Rattle.wc_semantics.specs.Rules.{Values}
use Rattle.wc_semantics.specs.declared.outcomes.Parsed.{Parsed}
use Rattle.wc_semantics.specs.Tables.{Table}
use Rattle.wc_world.specs.declared.change.Change.{Change}
use Rattle.wc_world.specs.World.{World}
use Rattle.wc_world.specs.Accepted.{IsReached}
use Rattle.wc_world.specs.Applied.{applied}
use Rattle.wc_world.specs.Consistent.{IsConsistent}
use Rattle.wc_world.specs.Records.{find_record, has_ended}
use Rattle.wc_machine.specs.Agreement.{Agrees}
use Rattle.wc_machine.specs.Continues.{Continues}
use Rattle.wc_machine.specs.Ends.{ends}
use Rattle.wc_machine.specs.Sound.{IsSound}
use Rattle.wc_machine.specs.Submissions.{Submits, submitted_number}
use Rattle.wc_soundness.specs.Touches.{Touches, MayBeTouched, StaysEnded, EndsLate, HasSoundLists, IsSoundRecord}

-- A table that agrees with a process afterwards agreed with it before.
abbrev pub TablesNarrow : Type 0
TablesNarrow = (v w : World) (pid : ℕ) → IsSound v → Touches v w pid → MayBeTouched v pid → (r : ProcessRecord) → find_record r.node v.records ≡ Some r
    → (table : Table) → Agrees table w r.node → Agrees table v r.node

-- What has ended in a sound world stays as it is.
abbrev pub EndedStay : Type 0
EndedStay = (v w : World) (pid : ℕ) → IsSound v → Touches v w pid → MayBeTouched v pid → (r : ProcessRecord) → find_record r.node v.records ≡ Some r
    → has_ended r.state ≡ true → StaysEnded v w r

-- The world after such an event continues the one before.
abbrev pub TouchingContinues : Type 0
TouchingContinues = (v w : World) (pid : ℕ) → IsSound v → Touches v w pid → MayBeTouched v pid → Continues v w

-- A process that the event doesn't touch stays sound.
abbrev pub OthersStaySound : Type 0
OthersStaySound = (v w : World) (pid : ℕ) → IsSound v → Touches v w pid → MayBeTouched v pid → IsConsistent w → EndsLate v w pid
    → (r : ProcessRecord) → find_record r.node v.records ≡ Some r → pid ≢ r.node → IsSoundRecord w r

-- So the world after such an event is sound where its lists are, and what the event touched or made is.
abbrev pub TouchedWorldsAreSound : Type 0
TouchedWorldsAreSound = (v w : World) (pid : ℕ) → IsSound v → Touches v w pid → MayBeTouched v pid → EndsLate v w pid → HasSoundLists w
    → ((r : ProcessRecord) → find_record r.node w.records ≡ Some r → (pid ≡ r.node) ⊎ (length v.nodes < r.node) → IsSoundRecord w r) → IsSound w

-- A submission, and the end of a calculation that hasn't started, are such events.
abbrev pub SubmissionsTouch : Type 0
SubmissionsTouch = (w : World) (library : List Definition) (caching : List (List ℕ)) (name : List ℕ) (inputs : Values) (cs : List Change)
    → IsReached w → Submits w library caching name inputs cs → Touches w (applied w cs) (submitted_number w inputs)

-- The law: the end of a process that hasn't started is an event that touches this process alone
abbrev pub EndsTouch : Type 0
EndsTouch = (w : World) (r : ProcessRecord) (p : Parsed) (source : Option ℕ) (code : Option ℤ) → find_record r.node w.records ≡ Some r
    → has_ended r.state ≡ false → r.started ≡ 0 → Touches w (applied w (ends w r p source code)) r.node
