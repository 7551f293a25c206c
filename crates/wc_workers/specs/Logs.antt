-- What steps of workers and losses come to, at any moments, also where these fall.
use Rattle.std.specs.Prelude.{◌≡◌, ◌⊎◌, ◌<◌, ℕ, List, [], ◌∷◌, ◌++◌}
use Rattle.std.specs.List.{AllByRecursion}
use Rattle.wc_transport.specs.declared.transport.Transport as transport
use Rattle.wc_state.specs.declared.record.Limits.{Limits}
use Rattle.wc_world.specs.Accepted.{IsAccepted, IsReached}
use Rattle.wc_world.specs.Applied.{applied}
use Rattle.wc_world.specs.World.{World}
use Rattle.wc_world.specs.declared.change.Change.{Change}
use Rattle.wc_machine.specs.declared.answer.TaskAnswer.{TaskAnswer}
use Rattle.wc_machine.specs.Machine.{Leads, turn}
use Rattle.wc_machine.specs.Sound.{IsSound}
use Rattle.wc_pool.specs.Fits.{FitsWorld}
use Rattle.wc_pool.specs.Pools.{HasLost, seat_at}
use Rattle.wc_pool.specs.declared.pool.Lease.{Lease}
use Rattle.wc_pool.specs.declared.pool.Pool.{Pool}
use Rattle.wc_pool.specs.declared.pool.Seat.TheVariants.{Answered}
use Rattle.wc_runner.specs.Laws.{StaysSound}
use Rattle.wc_runner.specs.Outside.{Answers, in_turn}
use Rattle.wc_workers.specs.Steps.{StepOf}
use Rattle.wc_workers.specs.declared.steps.Done.{Done}
use Rattle.wc_workers.specs.declared.steps.Done.TheVariants.{Took, Idle, Asked, Gave, Committed}

-- What a worker did under a lease: it asked the transport, which was so before and so after, at a moment, and got this answer; or it committed the
-- turn with this answer at a moment.
pub data Move (T : Type 0) : Type 0 where
  asks : (worker : ℕ) → Lease → TaskAnswer → (now : ℕ) → (old new : T) → Move T
  commits : (worker : ℕ) → Lease → TaskAnswer → (now : ℕ) → Move T

-- this move stands in the log
abbrev pub IsIn : {T : Type 0} → Move T → List (Move T) → Type 0
IsIn m [] = ⊥
IsIn m (n ∷ log) = (m ≡ n) ⊎ IsIn m log

-- a committed lease of the same process has a lesser epoch
abbrev pub IsEarlier : {T : Type 0} → Lease → Move T → Type 0
IsEarlier l (asks worker m a now old new) = Unit {0}
IsEarlier l (commits worker m a now) = m.pid ≡ l.pid → m.epoch < l.epoch

-- no worker has an answer
abbrev pub HoldsNone : Pool → Type 0
HoldsNone p = (k : ℕ) (l : Lease) (a : TaskAnswer) → seat_at p k ≡ Answered l a → ⊥

module _ {T : Type 0} (h : transport.Ghosts T) (limits : Limits) where
  -- what a step adds to the log
  abbrev pub moves_of : (worker now : ℕ) (old new : T) (p q : Pool) (w v : World) (done : Done) → StepOf h limits worker now old new p q w v done → List (Move T)
  moves_of worker now old new p q w v (Took pid) s = []
  moves_of worker now old new p q w v Idle s = []
  moves_of worker now old new p q w v (Asked pid) s = asks worker s.0.lease s.0.answer now old new ∷ []
  moves_of worker now old new p q w v (Gave pid why) s = []
  moves_of worker now old new p q w v (Committed pid) s = commits worker s.0.lease s.0.answer now ∷ []

  -- Steps of workers, each at any moment, and losses, at any place, one after another, led from one transport, pool and world to others, and left
  -- this log, the last move first.
  pub data Happened (t : T) (p : Pool) (w : World) : List (Move T) → T → Pool → World → Type 0 where
    begins : Happened t p w [] t p w
    stepped : (log : List (Move T)) (worker now : ℕ) (done : Done) (a b : T) (q r : Pool) (u v : World) → Happened t p w log a q u
        → (s : StepOf h limits worker now a b q r u v done) → Happened t p w (moves_of worker now a b q r u v done s ++ log) b r v
    lost : (log : List (Move T)) (worker : ℕ) (a : T) (q r : Pool) (u : World) → Happened t p w log a q u → HasLost q r worker → Happened t p w log a r u

  -- A turn of the lease's process, with the answer that this worker got when it asked under this lease: the transport gave it to what the process
  -- needs in the world where it is committed. It is committed before the lease lapses, and each lease of the process that was committed before has a
  -- lesser epoch.
  pub record CommitsAfter (log : List (Move T)) (u v : World) (worker : ℕ) (l : Lease) (a : TaskAnswer) (now : ℕ) : Type 0 where
    pub changes : List Change
    pub leads : Leads limits.poll_ms u (turn l.pid a now) changes
    pub accepted : IsAccepted u changes
    pub after : v ≡ applied u changes
    pub in_time : now < l.until
    pub moment : ℕ
    pub old : T
    pub new : T
    pub asked : IsIn (asks worker l a moment old new) log
    pub answered : Answers (in_turn h limits moment old new) u l.pid a
    pub earlier : AllByRecursion (IsEarlier l) log

  -- the worlds are those of the turns that the log commits, one after another
  pub data Commits (w : World) : List (Move T) → World → Type 0 where
    none : Commits w [] w
    asked_more : (log : List (Move T)) (v : World) (worker : ℕ) (l : Lease) (a : TaskAnswer) (now : ℕ) (old new : T) → Commits w log v
        → Commits w (asks worker l a now old new ∷ log) v
    one_more : (log : List (Move T)) (u v : World) (worker : ℕ) (l : Lease) (a : TaskAnswer) (now : ℕ) → Commits w log u
        → CommitsAfter log u v worker l a now → Commits w (commits worker l a now ∷ log) v

  -- Where a log begins with a pool that fits a world that accepted changes make, and no worker has an answer, its worlds are those of the turns that
  -- it commits, and the pool still fits. A sound world stays sound, and what it held is continued.
  abbrev pub LogsHold : Type 0
  LogsHold = (log : List (Move T)) (t b : T) (p q : Pool) (w v : World) → IsReached w → FitsWorld p w → HoldsNone p → Happened t p w log b q v
      → Commits w log v × FitsWorld q v × (IsSound w → StaysSound w v)
