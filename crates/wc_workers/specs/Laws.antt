-- Laws of runs of workers.
use Rattle.std.specs.Prelude.{ℕ, List}
use Rattle.wc_io.specs.declared.pacer.Pacer as pacer
use Rattle.wc_journal.specs.declared.journal.Journal.{Journal}
use Rattle.wc_state.specs.declared.record.Limits.{Limits}
use Rattle.wc_transport.specs.declared.transport.Transport as transport
use Rattle.wc_world.specs.World.{World}
use Rattle.wc_world.specs.Accepted.{IsReached}
use Rattle.wc_pool.specs.Fits.{FitsWorld}
use Rattle.wc_pool.specs.declared.pool.Pool.{Pool}
use Rattle.wc_runner.specs.Outside.{in_run}
use Rattle.wc_runner.specs.Runs.{TakesTurns}
use Rattle.wc_workers.specs.Logs.{Happened, HoldsNone, Move}
use Rattle.wc_workers.specs.Works.{IsLedByNew, IsLedWithin, Works}

-- The law: the steps of a run of workers, with its rests left out, are a log, so that what is said of each log holds of it
abbrev pub WorksAreLogs : {T P : Type 0} → transport.Ghosts T → pacer.Ghosts P → Limits → Type 0
WorksAreLogs {T} {P} h k limits = (workers seed : ℕ) (a : T) (c : P) (p : Pool) (w : World) (n m : ℕ) (log : List (Move T)) (b : T) (d : P) (q : Pool) (v : World)
    → Works h k limits workers seed a c p w n m log b d q v → Happened h limits a p w log b q v

-- The law: where no answer was held before, what a run of workers may leave at any moment is what turns and rests, at most as many, make of the world, by
-- what the run saw of the transport and the clock
abbrev pub WorkersTakeTurns : {T P : Type 0} → transport.Ghosts T → pacer.Ghosts P → Limits → Type 0
WorkersTakeTurns {T} {P} h k limits = (workers seed most : ℕ) (a b : T) (c d : P) (p : Pool) (w v : World) (before journal : Journal) → IsReached w → FitsWorld p w → HoldsNone p
    → IsLedWithin h k limits workers seed most a c p w before b d v journal → TakesTurns (in_run h k limits a b d) most w v

-- The law: so it is of a new pool, which holds no answers and fits each world
abbrev pub NewWorkersTakeTurns : {T P : Type 0} → transport.Ghosts T → pacer.Ghosts P → Limits → Type 0
NewWorkersTakeTurns {T} {P} h k limits = (workers seed most : ℕ) (a b : T) (c d : P) (w v : World) (before journal : Journal) → IsReached w
    → IsLedByNew h k limits workers seed most a c w before b d v journal → TakesTurns (in_run h k limits a b d) most w v
