-- What a transport tells of its jobs, and what its calls answer.
use Rattle.std.specs.Prelude.{◌≡◌, ◌≢◌, ℕ, List, Option, Some, None, Result, Ok, Err, OnOk}
use Rattle.std.specs.List.{Contains}
use Rattle.wc_value.specs.declared.process.Request.{Request}
use Rattle.wc_value.specs.declared.process.JobResult.{JobResult}
use Rattle.wc_value.specs.Requests.{requests, IsDistinct}
use Rattle.wc_io.specs.Counts.{RisesByOne}
use Rattle.wc_transport.specs.declared.error.TaskError.{TaskError}
use Rattle.wc_transport.specs.declared.error.TaskError.TheVariants as error
use Rattle.wc_transport.specs.declared.transport.Progress.{Progress}
use Rattle.wc_transport.specs.declared.transport.Progress.TheVariants as progress

-- what a call answered
pub data Reply : Type 0 where
  Failed : Reply
  OutOfMemory : Reply
  Running : Reply
  Done : Reply
  Brought : JobResult → Reply

-- the reply of a task that failed
abbrev pub error_reply : TaskError → Reply
error_reply error.Failed = Failed
error_reply error.OutOfMemory = OutOfMemory

-- the reply of an upload or a submission
abbrev pub task_reply : {T : Type 0} → Result T TaskError → Reply
task_reply (Ok done) = Done
task_reply (Err e) = error_reply e

-- the reply of how far a program is
abbrev pub progress_reply : Progress → Reply
progress_reply progress.Running = Running
progress_reply progress.Done = Done

-- the reply of an update
abbrev pub update_reply : Result Progress TaskError → Reply
update_reply (Ok p) = progress_reply p
update_reply (Err e) = error_reply e

-- the reply of a retrieve
abbrev pub retrieve_reply : Result JobResult TaskError → Reply
retrieve_reply (Ok brought) = Brought brought
retrieve_reply (Err e) = error_reply e

-- a call that fails raises the count of faults by one, and any other call leaves it, one that found no memory too
abbrev pub CountsTaskFault : {T : Type 0} → Result T TaskError → ℕ → ℕ → Type 0
CountsTaskFault (Ok answer) old new = new ≡ old
CountsTaskFault (Err error.OutOfMemory) old new = new ≡ old
CountsTaskFault (Err error.Failed) old new = RisesByOne old new

-- P of a meaning, where it is told
abbrev pub WhereTold : {A : Type 0} → (A → Type 0) → Option A → Type 0
WhereTold P None = Unit {0}
WhereTold P (Some told) = P told

-- Whether a meaning is told never changes, and where it is, the relation holds.
abbrev pub BothTold : {A : Type 0} → (A → A → Type 0) → Option A → Option A → Type 0
BothTold R None None = Unit {0}
BothTold R None (Some new) = ⊥
BothTold R (Some old) None = ⊥
BothTold R (Some old) (Some new) = R old new

-- a directory may have got this request, where it held none
abbrev pub MayGet : Request → Option Request → Option Request → Type 0
MayGet q (Some held) new = new ≡ Some held
MayGet q None None = Unit {0}
MayGet q None (Some got) = got ≡ q

-- what a call that places this request makes of the requests placed
pub record Places {T : Type 0} (dir : ℕ) (q : Request) (result : Result T TaskError) (old new : ℕ → Option Request) : Type 0 where
  pub others : (d : ℕ) → d ≢ dir → new d ≡ old d
  pub at_most : MayGet q (old dir) (new dir)
  pub placed : OnOk result (new dir ≡ Some q)

-- what is finished stays so
abbrev pub Stays : (ℕ → Type 0) → (ℕ → Type 0) → Type 0
Stays old new = (d : ℕ) → old d → new d

-- this request is the one that the directory holds
abbrev pub Holds : ℕ → Request → (ℕ → Option Request) → Type 0
Holds dir q placed = placed dir ≡ Some q

-- the result that a table has for a request
pub record IsRow (q : Request) (brought : JobResult) (rows : List (Request × JobResult)) : Type 0 where
  pub stands : Contains rows (q, brought)
  pub distinct : IsDistinct (requests rows)

-- P, if the program has ended
abbrev pub OnDone : Progress → Type 0 → Type 0
OnDone progress.Running P = Unit {0}
OnDone progress.Done P = P
