-- How a run went, step by step: the transport, the pacer and the world that each turn and each rest found, and those that it left.
use Rattle.std.specs.Prelude.{◌≡◌, ◌⊎◌, ◌<◌, ◌≤◌, ◌+◌, ◌-◌, ◌*◌, ◌^◌, ℕ, zero, suc, true, [], Some, Ok, Err, option_map}
use Rattle.wc_io.specs.Counts.{RisesByOne}
use Rattle.wc_io.specs.Steady.{StaysSteady, rested}
use Rattle.wc_io.specs.declared.pacer.Pacer as pacer
use Rattle.wc_journal.specs.declared.journal.Journal.{Journal}
use Rattle.wc_state.specs.declared.record.Limits.{Limits}
use Rattle.wc_transport.specs.declared.transport.Transport as transport
use Rattle.wc_world.specs.World.{World}
use Rattle.wc_machine.specs.Readiness.{ready_at}
use Rattle.wc_core.specs.Next.{IsLeastDue}
use Rattle.wc_core.specs.Ready.{is_ready_at}
use Rattle.wc_runner.specs.Asked.{AsksOnce, IsAsked, WhatItNeeds}
use Rattle.wc_runner.specs.Outside.{in_turn}
use Rattle.wc_runner.specs.Refusals.{RefusesStep}
use Rattle.wc_runner.specs.Runs.{FitsIn}
use Rattle.wc_runner.specs.Trips.{TurnOf}
use Rattle.wc_runner.specs.declared.error.RunError.{RunError}
use Rattle.wc_runner.specs.declared.error.RunError.TheVariants.{OutOfMemory}
use Rattle.wc_runner.specs.declared.runs.RunEnd.{RunEnd}
use Rattle.wc_runner.specs.declared.runs.RunEnd.TheVariants.{Spent}

-- ---- the pacer

-- The pacer was asked for the moment once, and said this one. Where it is steady, no later one that it says is before it.
pub record Says {P : Type 0} (k : pacer.Ghosts P) (now : ℕ) (old new : P) : Type 0 where
  pub said : k.said new now
  pub last : k.last new ≡ now
  pub told : RisesByOne (k.told old) (k.told new)
  pub rests : k.rests new ≡ k.rests old
  pub slept : k.slept new ≡ k.slept old
  pub steady : StaysSteady (λ before least. (before ≤ now) × (least ≡ now)) (k.least old) (k.least new)
  pub keeps : (moment : ℕ) → k.said old moment → k.said new moment

-- The pacer rested once, for so many milliseconds, as it tells where it counts what it slept, and said no moment. Where it is steady, the next one
-- is later by as many, or by more.
pub record RestsOnce {P : Type 0} (k : pacer.Ghosts P) (ms : ℕ) (old new : P) : Type 0 where
  pub rests : RisesByOne (k.rests old) (k.rests new)
  pub last : k.last new ≡ k.last old
  pub told : k.told new ≡ k.told old
  pub slept : k.slept new ≡ option_map (λ before. before + ms * 1_000_000) (k.slept old)
  pub steady : StaysSteady (λ before least. least ≡ rested before ms) (k.least old) (k.least new)
  pub keeps : (moment : ℕ) → k.said old moment → k.said new moment

-- ---- one step

-- The pacer said a moment, and a process had its turn then, with the answer that the transport gave between these two states of it: it was
-- asked once, for what the process needs, and where nothing is needed it is as it was.
pub record TurnStep {T P : Type 0} (h : transport.Ghosts T) (k : pacer.Ghosts P) (limits : Limits)
    (old new : T) (before after : P) (w v : World) : Type 0 where
  pub now : ℕ
  pub says : Says k now before after
  pub pid : ℕ
  pub turn : TurnOf (in_turn h limits now old new) pid w v
  pub asks : WhatItNeeds w pid (AsksOnce {A = Unit {0}} (Ok tt) h.asked old new)
  pub stays : WhatItNeeds w pid (λ n. IsAsked h pid n old new)

-- The pacer said a moment, at which no process is ready and which is before the least due one of a live job that isn't paused, and then it
-- rested once, until that one. This is a number of 64 bits, so a rest can last until it.
pub record RestStep {P : Type 0} (k : pacer.Ghosts P) (before after : P) (w : World) : Type 0 where
  pub now : ℕ
  pub between : P
  pub says : Says k now before between
  pub none : ready_at w now ≡ []
  pub until : ℕ
  pub later : now < until
  pub small : until < 2 ^ 64
  pub least : IsLeastDue w (Some until)
  pub rests : RestsOnce k (until - now) between after

-- ---- one after another

-- So many turns and so many rests, each of which found transport, pacer and world as the one before left them. A rest leaves the transport
-- and the world alone.
pub data Trail {T P : Type 0} (h : transport.Ghosts T) (k : pacer.Ghosts P) (limits : Limits) (a : T) (p : P) (w : World)
    : (turns rests : ℕ) → T → P → World → Type 0 where
  starts : Trail h k limits a p w zero zero a p w
  and_turn : (n m : ℕ) (b c : T) (q r : P) (v u : World) → Trail h k limits a p w n m b q v
      → TurnStep h k limits b c q r v u → Trail h k limits a p w (suc n) m c r u
  and_rest : (n m : ℕ) (b : T) (q r : P) (v : World) → Trail h k limits a p w n m b q v → RestStep k q r v → Trail h k limits a p w n (suc m) b r v

-- So many turns and rests in all led from one transport, pacer and world to others.
pub record Goes {T P : Type 0} (h : transport.Ghosts T) (k : pacer.Ghosts P) (limits : Limits) (all : ℕ)
    (a : T) (p : P) (w : World) (b : T) (q : P) (v : World) : Type 0 where
  pub count : ℕ
  pub rests : ℕ
  pub all_of_them : count + rests ≡ all
  pub trail : Trail h k limits a p w count rests b q v

-- ---- a run

-- At most so many turns and rests, and all of them where the run is spent, led to the transport, the pacer and the world that are left.
pub record Completes {T P : Type 0} (h : transport.Ghosts T) (k : pacer.Ghosts P) (limits : Limits) (most : ℕ)
    (a : T) (p : P) (w : World) (end : RunEnd) (b : T) (q : P) (v : World) : Type 0 where
  pub all : ℕ
  pub few : all ≤ most
  pub spent : end ≡ Spent → all ≡ most
  pub goes : Goes h k limits all a p w b q v

-- The turn of a ready process is refused at this moment, with what the transport answered between these two states of it: it was asked once,
-- or at most once where memory ran out, and where nothing is needed it is as it was.
pub record IsRefusedAt {T : Type 0} (h : transport.Ghosts T) (limits : Limits) (now : ℕ) (old new : T) (journal : Journal) (w : World)
    (e : RunError) : Type 0 where
  pub pid : ℕ
  pub ready : is_ready_at w pid now ≡ true
  pub refused : RefusesStep (in_turn h limits now old new) journal w pid e
  pub asks : WhatItNeeds w pid (AsksOnce {A = Unit {0}} (Err e) h.asked old new)
  pub stays : WhatItNeeds w pid (λ n. IsAsked h pid n old new)

-- Fewer than so many turns and rests led to the world that is left. Then the pacer said a moment, and memory ran out before the transport was
-- asked, or the turn of a process was refused by its own call.
pub record BreaksOff {T P : Type 0} (h : transport.Ghosts T) (k : pacer.Ghosts P) (limits : Limits) (most : ℕ)
    (a : T) (p : P) (w : World) (journal : Journal) (e : RunError) (b : T) (q : P) (v : World) : Type 0 where
  pub all : ℕ
  pub fewer : all < most
  pub before : T
  pub clock : P
  pub goes : Goes h k limits all a p w before clock v
  pub now : ℕ
  pub says : Says k now clock q
  pub last : ((b ≡ before) × (e ≡ OutOfMemory)) ⊎ IsRefusedAt h limits now before b journal v e

-- A trail of at most so many turns and rests led to this world: it is the one at first, and its journal ends where that one's did, or it and its journal
-- are within the limits.
pub record IsLedTo {T P : Type 0} (h : transport.Ghosts T) (k : pacer.Ghosts P) (limits : Limits) (most : ℕ)
    (a : T) (p : P) (w : World) (before : Journal) (v : World) (journal : Journal) : Type 0 where
  pub all : ℕ
  pub few : all ≤ most
  pub left : T
  pub clock : P
  pub goes : Goes h k limits all a p w left clock v
  pub fits : ((v ≡ w) × (journal.end ≡ before.end)) ⊎ FitsIn limits v journal
