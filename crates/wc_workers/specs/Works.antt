-- How a run of workers went, step by step: the transport, the clock, the pool and the world that each step and each rest found, and those that it left.
use Rattle.std.specs.Prelude.{◌≡◌, ◌⊎◌, ◌<◌, ◌≤◌, ◌+◌, ◌^◌, ℕ, zero, suc, true, false, List, [], ◌++◌, Option, Some, None, Result, Ok, Err, MatchOption}
use Rattle.wc_io.specs.declared.pacer.Pacer as pacer
use Rattle.wc_journal.specs.declared.journal.Journal.{Journal}
use Rattle.wc_state.specs.declared.record.Limits.{Limits}
use Rattle.wc_transport.specs.declared.transport.Transport as transport
use Rattle.wc_world.specs.World.{World}
use Rattle.wc_machine.specs.Readiness.{ready_at}
use Rattle.wc_pool.specs.Pools.{IsNew, IsSamePool, lease_at, steps_at}
use Rattle.wc_pool.specs.declared.pool.Lease.{Lease}
use Rattle.wc_pool.specs.declared.pool.Pool.{Pool}
use Rattle.wc_runner.specs.Core.Next.{IsLeastDue}
use Rattle.wc_runner.specs.Core.Ready.{is_ready_at}
use Rattle.wc_runner.specs.Core.Standing.{is_any_live, is_resting}
use Rattle.wc_runner.specs.Runs.{FitsIn, RisesBy}
use Rattle.wc_runner.specs.Trails.{RestStep, Says}
use Rattle.wc_runner.specs.declared.error.RunError.{RunError}
use Rattle.wc_runner.specs.declared.error.RunError.TheVariants.{OutOfMemory}
use Rattle.wc_runner.specs.declared.runs.RunEnd.{RunEnd}
use Rattle.wc_runner.specs.declared.runs.RunEnd.TheVariants.{AllEnded, Spent, Resting}
use Rattle.wc_workers.specs.Logs.{Move, moves_of}
use Rattle.wc_workers.specs.Orders.{steps_of, worker_of}
use Rattle.wc_workers.specs.Steps.{AsksInStep, IsHeldTurn, RefusesHeld, StepOf}
use Rattle.wc_workers.specs.declared.steps.Done.{Done}

-- ---- when all rest

-- no worker has a lease
abbrev pub HasNoLease : Pool → Type 0
HasNoLease p = (k : ℕ) → lease_at p k ≡ None

-- some worker has a lease
abbrev pub HasLease : Pool → Type 0
HasLease p = (k : ℕ) × (l : Lease) × (lease_at p k ≡ Some l)

-- no worker has a lease and no process is ready, and the least due moment is this later one
abbrev pub RestsUntil : Pool → World → (now until : ℕ) → Type 0
RestsUntil p w now until = HasNoLease p × (ready_at w now ≡ []) × (now < until) × IsLeastDue w (Some until)

-- some worker has a lease, or some process is ready
abbrev pub IsBusy : Pool → World → (now : ℕ) → Type 0
IsBusy p w now = HasLease p ⊎ ((pid : ℕ) × (is_ready_at w pid now ≡ true))

-- until when all rest, if they do
abbrev pub IsRestOf : Pool → World → (now : ℕ) → Option ℕ → Type 0
IsRestOf p w now until = MatchOption until (IsBusy p w now) (RestsUntil p w now)

-- ---- one after another

module _ {T P : Type 0} (h : transport.Ghosts T) (k : pacer.Ghosts P) (limits : Limits) (workers seed : ℕ) where
  -- So many steps and so many rests, each of which found transport, clock, pool and world as the one before left them. Each step is that of the worker
  -- whose number comes, at a moment that the clock said, where some worker has a lease or some process is ready. At a rest no worker has a lease and
  -- no process is ready. The log has what was asked and what was committed, the last move first.
  pub data Works (a : T) (c : P) (p : Pool) (w : World) : (steps rests : ℕ) → List (Move T) → T → P → Pool → World → Type 0 where
    starts : Works a c p w zero zero [] a c p w
    and_step : (n m : ℕ) (log : List (Move T)) (b : T) (d : P) (q : Pool) (v : World) → Works a c p w n m log b d q v
        → (now : ℕ) (done : Done) (b_new : T) (d_new : P) (r : Pool) (u : World) → Says k now d d_new → IsBusy q v now
        → (s : StepOf h limits (worker_of workers seed n) now b b_new q r v u done)
        → Works a c p w (suc n) m (moves_of h limits (worker_of workers seed n) now b b_new q r v u done s ++ log) b_new d_new r u
    and_rest : (n m : ℕ) (log : List (Move T)) (b : T) (d d_new : P) (q : Pool) (v : World) → Works a c p w n m log b d q v
        → HasNoLease q → RestStep k d d_new v → Works a c p w n (suc m) log b d_new q v

  -- So many steps and rests in all led from one transport, clock, pool and world to others.
  pub record Goes (all : ℕ) (a : T) (c : P) (p : Pool) (w : World) (b : T) (d : P) (q : Pool) (v : World) : Type 0 where
    pub steps : ℕ
    pub rests : ℕ
    pub all_of_them : steps + rests ≡ all
    pub log : List (Move T)
    pub works : Works a c p w steps rests log b d q v

  -- ---- a run of workers

  -- At most so many steps and rests, and all of them where the run is spent, led to the transport, the clock, the pool and the world that are left. The
  -- moments that were told are as many, and each worker made the steps that came to it.
  pub record Completes (most : ℕ) (a : T) (c : P) (p : Pool) (w : World) (end : RunEnd) (b : T) (d : P) (q : Pool) (v : World) : Type 0 where
    pub all : ℕ
    pub few : all ≤ most
    pub spent : end ≡ Spent → all ≡ most
    pub goes : Goes all a c p w b d q v
    pub told : RisesBy all (k.told c) (k.told d)
    pub counts : (worker : ℕ) → steps_at p worker + steps_of workers seed goes.steps worker < 2 ^ 64
        → steps_at q worker ≡ steps_at p worker + steps_of workers seed goes.steps worker

  -- The step of the worker that comes is refused at this moment: a turn with its own answer is, or memory ran out; and it asked the transport at most once.
  pub record IsRefusedAt (step now : ℕ) (p : Pool) (old new : T) (journal : Journal) (v : World) (e : RunError) : Type 0 where
    pub refused : RefusesHeld limits (worker_of workers seed step) now p journal v e
    pub asks : AsksInStep {A = Done} h (worker_of workers seed step) now p v (Err e) old new

  -- Fewer than so many steps and rests led to the world and the pool that are left. Then the clock said a moment, and memory ran out before a step, or the
  -- step of the worker that comes was refused.
  pub record BreaksOff (most : ℕ) (a : T) (c : P) (p : Pool) (w : World) (journal : Journal) (e : RunError) (b : T) (d : P) (q : Pool) (v : World) : Type 0 where
    pub all : ℕ
    pub fewer : all < most
    pub before : T
    pub clock : P
    pub pool : Pool
    pub goes : Goes all a c p w before clock pool v
    pub now : ℕ
    pub says : Says k now clock d
    pub same : IsSamePool pool q
    pub last : ((b ≡ before) × (e ≡ OutOfMemory)) ⊎ IsRefusedAt goes.steps now pool before b journal v e

  -- it came to an end, or broke off
  abbrev pub Went : (most : ℕ) → T → P → Pool → World → Result RunEnd RunError → Journal → T → P → Pool → World → Type 0
  Went most a c p w (Ok end) journal b d q v = Completes most a c p w end b d q v
  Went most a c p w (Err e) journal b d q v = BreaksOff most a c p w journal e b d q v

  -- ---- what is stored at a moment

  -- One step more was left, and this is what the turn of the worker that comes makes of the world with its answer, at a moment that the clock has said.
  pub record IsNextTurn (most all step : ℕ) (p : Pool) (u : World) (d : P) (v : World) (journal : Journal) : Type 0 where
    pub fewer : all < most
    pub now : ℕ
    pub said : k.said d now
    pub turn : IsHeldTurn limits (worker_of workers seed step) now p u v journal

  -- Steps and rests, at most so many, led to a world, and this is that world or what the turn that comes next makes of it. It is the world at first by a
  -- journal that ends where that one's did, or it is within the limits. Each moment that was said on the way was said by then, and no failure was counted
  -- later than by then.
  pub record IsLedWithin (most : ℕ) (a : T) (c : P) (p : Pool) (w : World) (before : Journal) (b : T) (d : P) (v : World) (journal : Journal) : Type 0 where
    pub all : ℕ
    pub few : all ≤ most
    pub left : T
    pub clock : P
    pub pool : Pool
    pub there : World
    pub goes : Goes all a c p w left clock pool there
    pub is : (v ≡ there) ⊎ IsNextTurn most all goes.steps pool there d v journal
    pub fits : ((v ≡ w) × (journal.end ≡ before.end)) ⊎ FitsIn limits v journal
    pub said : (moment : ℕ) → k.said clock moment → k.said d moment
    pub faults : h.faults left ≤ h.faults b

-- A run of workers ends so: no process is live, else each live one is held up, else it is spent.
abbrev pub EndsAs : World → RunEnd → Type 0
EndsAs v AllEnded = is_any_live v ≡ false
EndsAs v Spent = (is_any_live v ≡ true) × (is_resting v ≡ false)
EndsAs v Resting = (is_any_live v ≡ true) × (is_resting v ≡ true)

-- ---- with a new pool

module _ {T P : Type 0} (h : transport.Ghosts T) (k : pacer.Ghosts P) (limits : Limits) (workers seed : ℕ) where
  -- it is the world at first, by a journal that ends where that one's did, or steps and rests of a new pool of so many workers led to it, as `IsLedWithin` says
  abbrev pub IsLedByNew : (most : ℕ) (a : T) (c : P) (w : World) (before : Journal) (b : T) (d : P) (v : World) (journal : Journal) → Type 0
  IsLedByNew most a c w before b d v journal =
      ((v ≡ w) × (journal.end ≡ before.end)) ⊎ ((p : Pool) × IsNew workers p × IsLedWithin h k limits workers seed most a c p w before b d v journal)

  -- memory ran out before the pool was made: nothing was asked, and no moment was told
  abbrev pub IsUnbegun : (a : T) (c : P) (w : World) → Result RunEnd RunError → (b : T) (d : P) (v : World) → Type 0
  IsUnbegun a c w result b d v = (result ≡ Err OutOfMemory) × (b ≡ a) × (d ≡ c) × (v ≡ w)

  -- a run of a new pool of so many workers came to an end, or broke off
  abbrev pub WentByNew : (most : ℕ) (a : T) (c : P) (w : World) → Result RunEnd RunError → (journal : Journal) (b : T) (d : P) (v : World) → Type 0
  WentByNew most a c w result journal b d v =
      ((p q : Pool) × IsNew workers p × Went h k limits workers seed most a c p w result journal b d q v) ⊎ IsUnbegun a c w result b d v
