-- What a turn asks of the transport, and which directories there are after it.
use Rattle.std.specs.Prelude.{◌≡◌, ◌≢◌, ◌⊎◌, ◌<◌, ◌≤◌, ◌+◌, ◌^◌, ℕ, Option, Some, None, Result, Ok, Err, IfSome, IsSome}
use Rattle.wc_io.specs.Counts.{RisesByOne}
use Rattle.wc_value.specs.declared.process.Request.{Request}
use Rattle.wc_state.specs.declared.record.Task.{Task}
use Rattle.wc_state.specs.declared.record.Task.TheVariants as task
use Rattle.wc_transport.specs.Outside.{BothTold, MayGet, Stays}
use Rattle.wc_transport.specs.declared.transport.Transport as transport
use Rattle.wc_world.specs.World.{World}
use Rattle.wc_world.specs.Records.{find_record}
use Rattle.wc_machine.specs.Questions.{Need, nothing, performs, need}
use Rattle.wc_runner.specs.declared.error.RunError.{RunError}
use Rattle.wc_runner.specs.declared.error.RunError.TheVariants.{DiskFault, Full, OutOfMemory}

-- P of what the process with this number needs
abbrev pub WhatItNeeds : World → (pid : ℕ) → (Need → Type 0) → Type 0
WhatItNeeds w pid P = IfSome (find_record pid w.records) (λ r. P (need w r))

-- ---- how often something was asked

-- the count of a turn in which something may have been asked is higher by one, and where memory ran out at most by one
abbrev pub CountsAsking : {T : Type 0} → Result T RunError → (old new : ℕ) → Type 0
CountsAsking (Ok answer) old new = RisesByOne old new
CountsAsking (Err DiskFault) old new = RisesByOne old new
CountsAsking (Err (Full what count limit)) old new = RisesByOne old new
CountsAsking (Err OutOfMemory) old new = (new ≡ old) ⊎ RisesByOne old new

-- the transport is as it was where nothing is needed, and else it was asked once
abbrev pub AsksOnce : {A T : Type 0} → Result A RunError → (T → ℕ) → (old new : T) → Need → Type 0
AsksOnce result asked old new nothing = new ≡ old
AsksOnce result asked old new (performs t q) = CountsAsking result (asked old) (asked new)

-- ---- directories

-- a directory may get the request that is uploaded
abbrev pub MayHold : Task → Request → Option Request → Option Request → Type 0
MayHold task.Upload q old new = MayGet q old new
MayHold task.Submit q old new = new ≡ old
MayHold task.Update q old new = new ≡ old
MayHold task.Retrieve q old new = new ≡ old

-- No directory has another request than before, but the process's own one, which may get the request that it uploads.
pub record PlacesOwn (pid : ℕ) (t : Task) (q : Request) (old new : ℕ → Option Request) : Type 0 where
  pub others : (dir : ℕ) → dir ≢ pid → new dir ≡ old dir
  pub own : MayHold t q (old pid) (new pid)

-- which requests are placed after a turn of this process
abbrev pub PlacesFor : (pid : ℕ) → Need → (old new : ℕ → Option Request) → Type 0
PlacesFor pid nothing old new = (dir : ℕ) → new dir ≡ old dir
PlacesFor pid (performs t q) old new = PlacesOwn pid t q old new

-- What a transport that was asked for this need of a process keeps: it has placed no other request, its table stays, what is finished stays so,
-- its count of faults rises by one or stays, and an obliging one stays so.
pub record IsAsked {T : Type 0} (g : transport.Ghosts T) (pid : ℕ) (n : Need) (old new : T) : Type 0 where
  pub placed : BothTold (PlacesFor pid n) (g.placed old) (g.placed new)
  pub table : g.table new ≡ g.table old
  pub finished : Stays (g.finished old) (g.finished new)
  pub tells_finished : g.tells_finished new ≡ g.tells_finished old
  pub faults : (g.faults new ≡ g.faults old) ⊎ RisesByOne (g.faults old) (g.faults new)
  pub obliging : g.obliging old → g.obliging new

-- each directory that holds a request is the number of a process, where the transport tells them
abbrev pub AreOfProcesses : Option (ℕ → Option Request) → World → Type 0
AreOfProcesses None w = Unit {0}
AreOfProcesses (Some placed) w = (dir : ℕ) → IsSome (placed dir) → IsSome (find_record dir w.records)

-- A transport that was asked at most so often, one call after another: its table stays, what is finished stays so, its count of faults has
-- not fallen, and whether it tells its directories stays.
pub record IsAskedFor {T : Type 0} (g : transport.Ghosts T) (most : ℕ) (old new : T) : Type 0 where
  pub later : g.asked old ≤ g.asked new
  pub few : g.asked old + most < 2 ^ 64 → g.asked new ≤ g.asked old + most
  pub table : g.table new ≡ g.table old
  pub finished : Stays (g.finished old) (g.finished new)
  pub tells_finished : g.tells_finished new ≡ g.tells_finished old
  pub faults : g.faults old ≤ g.faults new
