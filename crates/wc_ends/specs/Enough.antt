-- What it takes that a run ends every process.
use Rattle.std.specs.Prelude.{◌≡◌, ◌≤◌, ◌+◌, ℕ, false, All, List, Option, Some, None, IsSome, count_by}
use Rattle.wc_io.specs.declared.pacer.Pacer as pacer
use Rattle.wc_value.specs.declared.process.JobResult.{JobResult}
use Rattle.wc_value.specs.declared.process.Request.{Request}
use Rattle.wc_expression.specs.declared.outcome.Outcome.TheVariants.{Gives}
use Rattle.wc_semantics.specs.Tables.{plain, row_of}
use Rattle.wc_state.specs.declared.record.Part.{Part}
use Rattle.wc_state.specs.declared.record.Part.TheVariants as part
use Rattle.wc_state.specs.declared.record.ProcessRecord.{ProcessRecord}
use Rattle.wc_state.specs.declared.record.Task.{Task}
use Rattle.wc_state.specs.declared.record.Task.TheVariants as task
use Rattle.wc_records.specs.Readiness.{waits_later}
use Rattle.wc_transport.specs.Obliging.{MayTake}
use Rattle.wc_transport.specs.Outside.{Holds}
use Rattle.wc_transport.specs.declared.transport.Transport as transport
use Rattle.wc_world.specs.Records.{has_ended}
use Rattle.wc_world.specs.World.{World}
use Rattle.wc_machine.specs.Agreement.{AgreesWithWorld}
use Rattle.wc_machine.specs.Recorded.{recorded_request}
use Rattle.wc_machine.specs.Sound.{IsSound}
use Rattle.wc_runner.specs.Asked.{AreOfProcesses}
use Rattle.wc_cost.specs.Laws.{RootsMean}
use Rattle.wc_cost.specs.Left.{IsLeft}

-- ---- directories

module _ (placed : ℕ → Option Request) (finished : ℕ → Type 0) where
  -- A directory is as a task with this request needs it: before the upload it holds the request or nothing, then it holds the request, and
  -- once the job is submitted it is finished.
  abbrev pub TaskStands : Task → (dir : ℕ) → Request → Type 0
  TaskStands task.Upload dir q = MayTake dir q placed
  TaskStands task.Submit dir q = Holds dir q placed
  TaskStands task.Update dir q = Holds dir q placed × finished dir
  TaskStands task.Retrieve dir q = Holds dir q placed × finished dir

  -- so is that of a process that asks for a request, and is created or waits
  abbrev pub PartStands : Part → (dir : ℕ) → Request → Type 0
  PartStands part.Fresh dir q = MayTake dir q placed
  PartStands (part.Chain c) dir q = Unit {0}
  PartStands (part.Job j) dir q = TaskStands j.task dir q
  PartStands part.Over dir q = Unit {0}

  -- each live process that asks for a request finds its directory so
  abbrev pub ProcessStands : World → ProcessRecord → Type 0
  ProcessStands w r = has_ended r.state ≡ false → (q : Request) → recorded_request w r ≡ Some (Gives q) → PartStands r.part r.node q

-- The transport tells its directories, each of which is a process's, and each live process finds its own as it needs it.
abbrev pub DirectoriesStand : Option (ℕ → Option Request) → (ℕ → Type 0) → World → Type 0
DirectoriesStand None finished w = ⊥
DirectoriesStand (Some placed) finished w = AreOfProcesses (Some placed) w × All (ProcessStands placed finished w) w.records

-- ---- the premises

-- The world is sound and none of its live processes is paused. The transport tells its table, whose results agree with what is recorded, and
-- with which each live process that nothing called means a tree; it is obliging, and finds the directories as the jobs need them. The clock
-- is steady. And so many turns are enough for what is left, with a rest for each job that waits for a moment.
pub record HasEnough {T P : Type 0} (h : transport.Ghosts T) (k : pacer.Ghosts P) (a : T) (p : P) (w : World) (turns : ℕ) : Type 0 where
  pub sound : IsSound w
  pub plays : All (λ r. has_ended r.state ≡ false → r.paused ≡ false) w.records
  pub rows : List (Request × JobResult)
  pub table : h.table a ≡ Some rows
  pub agrees : AgreesWithWorld (plain rows) w
  pub means : RootsMean (λ q. row_of q rows) w
  pub directories : DirectoriesStand (h.placed a) (h.finished a) w
  pub obliging : h.obliging a
  pub steady : IsSome (k.least p)
  pub enough : (left : ℕ) → IsLeft (λ q. row_of q rows) w left → left + count_by waits_later w.records ≤ turns
