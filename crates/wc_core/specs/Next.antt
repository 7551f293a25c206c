-- What a run does next.
use Rattle.std.specs.Prelude.{◌≡◌, ◌<◌, ◌≤◌, ℕ, true, ◌||◌, if◌then◌else◌, List, [], ◌∷◌, All, Option, Some, None, IfSome}
use Rattle.wc_state.specs.declared.record.Part.{Part}
use Rattle.wc_state.specs.declared.record.Part.TheVariants as part
use Rattle.wc_state.specs.declared.record.ProcessRecord.{ProcessRecord}
use Rattle.wc_world.specs.World.{World}
use Rattle.wc_world.specs.Records.{find_record, has_ended}
use Rattle.wc_machine.specs.Readiness.{ready_at}
use Rattle.wc_core.specs.Ready.{is_ready_at}
use Rattle.wc_core.specs.declared.next.Next.{Next}
use Rattle.wc_core.specs.declared.next.Next.TheVariants.{Turn, Rest}

-- the moment from which on a job is asked about; no other part has one
abbrev pub due_in : Part → Option ℕ
due_in part.Fresh = None
due_in (part.Chain c) = None
due_in (part.Job j) = Some j.due
due_in part.Over = None

-- the due moment of a live job that waits and isn't paused
abbrev pub due_of : ProcessRecord → Option ℕ
due_of r = if r.paused || has_ended r.state then None else due_in r.part

-- a job of the world has this due moment
pub record HasDue (w : World) (due : ℕ) : Type 0 where
  pub process : ProcessRecord
  pub found : find_record process.node w.records ≡ Some process
  pub waits : due_of process ≡ Some due

-- a moment isn't after that of the job
abbrev pub IsNotAfter : ℕ → ProcessRecord → Type 0
IsNotAfter due r = IfSome (due_of r) (λ d. due ≤ d)

-- the least due moment of the live jobs that aren't paused, if there is one
abbrev pub IsLeastDue : World → Option ℕ → Type 0
IsLeastDue w None = All (λ r. due_of r ≡ None) w.records
IsLeastDue w (Some due) = HasDue w due × All (IsNotAfter due) w.records

-- A process that is ready has its turn. Where none is ready at the moment, there is a rest until the least due moment, which is later.
abbrev pub ComesNext : World → (now : ℕ) → Next → Type 0
ComesNext w now (Turn pid) = is_ready_at w pid now ≡ true
ComesNext w now (Rest until) = (ready_at w now ≡ []) × (now < until) × IsLeastDue w (Some until)

-- the first of due moments in order, if there is one
abbrev pub first_moment : List (ℕ × ℕ) → Option ℕ
first_moment [] = None
first_moment (d ∷ dues) = Some d.0
