-- What one step of a worker does, and why it breaks off.
use Rattle.std.specs.Prelude.{◌≡◌, ◌⊎◌, ℕ, Option, Some, None, List, Result, Ok}
use Rattle.wc_transport.specs.declared.transport.Transport as transport
use Rattle.wc_journal.specs.declared.journal.Journal.{Journal}
use Rattle.wc_state.specs.declared.record.Limits.{Limits}
use Rattle.wc_world.specs.Accepted.{IsAccepted}
use Rattle.wc_world.specs.Applied.{applied}
use Rattle.wc_world.specs.World.{World}
use Rattle.wc_world.specs.declared.change.Change.{Change}
use Rattle.wc_machine.specs.declared.answer.TaskAnswer.{TaskAnswer}
use Rattle.wc_machine.specs.Machine.{Leads, turn}
use Rattle.wc_pool.specs.Fits.{FitsNeed}
use Rattle.wc_pool.specs.Pools.{HasClosed, HasTaken, Turns, free_at, lease_at, seat_at, why_given}
use Rattle.wc_pool.specs.declared.giving.Why.{Why}
use Rattle.wc_pool.specs.declared.pool.Lease.{Lease}
use Rattle.wc_pool.specs.declared.pool.Pool.{Pool}
use Rattle.wc_pool.specs.declared.pool.Seat.TheVariants.{Free, Leased, Answered}
use Rattle.wc_runner.specs.Asked.{AsksOnce, IsAsked, WhatItNeeds}
use Rattle.wc_runner.specs.Leaves.{IsTurnWithin}
use Rattle.wc_runner.specs.Outside.{Answers, Outside, answer_of, in_turn}
use Rattle.wc_runner.specs.Refusals.{RefusesStep}
use Rattle.wc_runner.specs.declared.error.RunError.{RunError}
use Rattle.wc_runner.specs.declared.error.RunError.TheVariants.{DiskFault, Full, OutOfMemory}
use Rattle.wc_workers.specs.declared.steps.Done.{Done}
use Rattle.wc_workers.specs.declared.steps.Done.TheVariants.{Took, Idle, Asked, Gave, Committed}

-- ---- a turn with an answer that was got before

-- the outside that gave this answer, whatever was asked, at this moment
abbrev pub given : TaskAnswer → Limits → (now : ℕ) → Outside
given a limits now = record {
  said = λ moment. moment ≡ now;
  gave = λ dir t q reply. answer_of reply ≡ Some a;
  brings = λ q result. Unit {0};
  failed = Unit {0};
  limits = limits;
}

-- ---- what each step does

-- A worker without a lease takes one on the lowest ready process that may be leased, or there is none.
abbrev pub Takes : (worker now : ℕ) → Pool → Pool → World → Done → Type 0
Takes worker now p q w (Took pid) = (seat_at p worker ≡ Free) × (free_at p w now ≡ Some pid) × HasTaken p q worker pid now
Takes worker now p q w Idle = (seat_at p worker ≡ Free) × (free_at p w now ≡ None) × Turns p q worker Free
Takes worker now p q w (Asked pid) = ⊥
Takes worker now p q w (Gave pid why) = ⊥
Takes worker now p q w (Committed pid) = ⊥

-- A worker gives up its lease on a process, for the first reason that holds, and has nothing then.
pub record GivesUp (worker now : ℕ) (p q : Pool) (w : World) (pid : ℕ) (why : Why) : Type 0 where
  pub lease : Lease
  pub had : lease_at p worker ≡ Some lease
  pub its : lease.pid ≡ pid
  pub reason : why_given p w lease now ≡ Some why
  pub left : Turns p q worker Free

-- A worker with a lease that isn't given up asks the transport once for what its process needs, or not at all where it needs nothing, and keeps
-- the answer, which fits.
pub record AsksFor {T : Type 0} (h : transport.Ghosts T) (limits : Limits) (worker now : ℕ) (old new : T) (p q : Pool) (w : World) (pid : ℕ) : Type 0 where
  pub lease : Lease
  pub had : seat_at p worker ≡ Leased lease
  pub its : lease.pid ≡ pid
  pub valid : why_given p w lease now ≡ None
  pub answer : TaskAnswer
  pub answered : Answers (in_turn h limits now old new) w pid answer
  pub fitting : FitsNeed w pid answer
  pub asks : WhatItNeeds w pid (AsksOnce {A = Unit {0}} (Ok tt) h.asked old new)
  pub stays : WhatItNeeds w pid (λ n. IsAsked h pid n old new)
  pub kept : Turns p q worker (Answered lease answer)

-- A worker with an answer under a lease that isn't given up commits the turn of its process with that answer at this moment, and has nothing then.
pub record CommitsTurn (limits : Limits) (worker now : ℕ) (p q : Pool) (w v : World) (pid : ℕ) : Type 0 where
  pub lease : Lease
  pub answer : TaskAnswer
  pub had : seat_at p worker ≡ Answered lease answer
  pub its : lease.pid ≡ pid
  pub valid : why_given p w lease now ≡ None
  pub changes : List Change
  pub leads : Leads limits.poll_ms w (turn pid answer now) changes
  pub accepted : IsAccepted w changes
  pub after : v ≡ applied w changes
  pub closed : HasClosed p q worker pid

-- A worker has an answer under a lease that isn't given up.
pub record Holds (worker now : ℕ) (p : Pool) (w : World) : Type 0 where
  pub lease : Lease
  pub answer : TaskAnswer
  pub had : seat_at p worker ≡ Answered lease answer
  pub valid : why_given p w lease now ≡ None

-- One step of a worker. The transport is as it was but where it asks, and the world but where it commits.
abbrev pub StepOf : {T : Type 0} → transport.Ghosts T → Limits → (worker now : ℕ) → (old new : T) → (p q : Pool) → (w v : World) → Done → Type 0
StepOf h limits worker now old new p q w v (Took pid) = Takes worker now p q w (Took pid) × (new ≡ old) × (v ≡ w)
StepOf h limits worker now old new p q w v Idle = Takes worker now p q w Idle × (new ≡ old) × (v ≡ w)
StepOf h limits worker now old new p q w v (Asked pid) = AsksFor h limits worker now old new p q w pid × (v ≡ w)
StepOf h limits worker now old new p q w v (Gave pid why) = GivesUp worker now p q w pid why × (new ≡ old) × (v ≡ w)
StepOf h limits worker now old new p q w v (Committed pid) = CommitsTurn limits worker now p q w v pid × (new ≡ old)

-- A step that doesn't commit; or else the worker has an answer under a lease that isn't given up, and nothing was done.
abbrev pub StepOrHolds : {T : Type 0} → transport.Ghosts T → Limits → (worker now : ℕ) → (old new : T) → (p q : Pool) → World → Option Done → Type 0
StepOrHolds h limits worker now old new p q w None = Holds worker now p w × (q ≡ p) × (new ≡ old)
StepOrHolds h limits worker now old new p q w (Some done) = StepOf h limits worker now old new p q w w done

-- ---- why it breaks off

-- The worker has an answer under a lease that isn't given up, and the turn with it is refused, by the journal that there is.
pub record RefusesCommitting (limits : Limits) (worker now : ℕ) (p : Pool) (journal : Journal) (w : World) (e : RunError) : Type 0 where
  pub lease : Lease
  pub answer : TaskAnswer
  pub had : seat_at p worker ≡ Answered lease answer
  pub valid : why_given p w lease now ≡ None
  pub refused : RefusesStep (given answer limits now) journal w lease.pid e

-- a step breaks off for a fault or for fullness only where it would commit a turn, and that is refused; want of memory may come at any time
abbrev pub RefusesHeld : Limits → (worker now : ℕ) → Pool → Journal → World → RunError → Type 0
RefusesHeld limits worker now p journal w DiskFault = RefusesCommitting limits worker now p journal w DiskFault
RefusesHeld limits worker now p journal w (Full what count limit) = RefusesCommitting limits worker now p journal w (Full what count limit)
RefusesHeld limits worker now p journal w OutOfMemory = Unit {0}

-- The world and the journal are what the turn with the worker's answer makes of the world, under a lease that isn't given up.
pub record IsHeldTurn (limits : Limits) (worker now : ℕ) (p : Pool) (w v : World) (journal : Journal) : Type 0 where
  pub lease : Lease
  pub answer : TaskAnswer
  pub had : seat_at p worker ≡ Answered lease answer
  pub valid : why_given p w lease now ≡ None
  pub turn : IsTurnWithin (given answer limits now) lease.pid w v journal

-- the world by a journal that ends where this one does, or what the turn with the worker's answer makes of it
abbrev pub IsOrHeldTurn : Limits → (worker now : ℕ) → Pool → World → Journal → World → Journal → Type 0
IsOrHeldTurn limits worker now p w before v journal = ((v ≡ w) × (journal.end ≡ before.end)) ⊎ IsHeldTurn limits worker now p w v journal

-- ---- what is asked

-- The worker has a lease that isn't given up, and no answer, and the transport was asked for what its process needs.
pub record AsksForIts {A T : Type 0} (h : transport.Ghosts T) (worker now : ℕ) (p : Pool) (w : World) (result : Result A RunError) (old new : T) : Type 0 where
  pub lease : Lease
  pub had : seat_at p worker ≡ Leased lease
  pub valid : why_given p w lease now ≡ None
  pub asks : WhatItNeeds w lease.pid (AsksOnce result h.asked old new)
  pub stays : WhatItNeeds w lease.pid (λ n. IsAsked h lease.pid n old new)

-- the transport is as it was, or was asked once for what the worker's process needs, or at most once where memory ran out
abbrev pub AsksInStep : {A T : Type 0} → transport.Ghosts T → (worker now : ℕ) → Pool → World → Result A RunError → (old new : T) → Type 0
AsksInStep h worker now p w result old new = (new ≡ old) ⊎ AsksForIts h worker now p w result old new
