-- Which pools fit a world.
use Rattle.std.specs.Prelude.{◌≡◌, ◌≤◌, ℕ, true, Some}
use Rattle.wc_state.specs.declared.record.ProcessRecord.{ProcessRecord}
use Rattle.wc_world.specs.World.{World}
use Rattle.wc_world.specs.Records.{find_record}
use Rattle.wc_machine.specs.declared.answer.TaskAnswer.{TaskAnswer}
use Rattle.wc_machine.specs.Questions.{need, fits}
use Rattle.wc_pool.specs.Pools.{epoch_at, is_current, lease_at, seat_at}
use Rattle.wc_pool.specs.declared.pool.Lease.{Lease}
use Rattle.wc_pool.specs.declared.pool.Pool.{Pool}
use Rattle.wc_pool.specs.declared.pool.Seat.TheVariants.{Answered}

-- The process is there, and the answer fits what it needs.
pub record FitsNeed (w : World) (pid : ℕ) (a : TaskAnswer) : Type 0 where
  pub process : ProcessRecord
  pub found : find_record pid w.records ≡ Some process
  pub fitting : fits (need w process) a ≡ true

-- A pool fits a world: no lease has a greater epoch than the last one of its process, no two workers have a lease of one process and one epoch,
-- and each answer that a worker has under the last lease of a process fits what this needs.
pub record FitsWorld (p : Pool) (w : World) : Type 0 where
  pub epochs : (k : ℕ) (l : Lease) → lease_at p k ≡ Some l → l.epoch ≤ epoch_at p l.pid
  pub apart : (j k : ℕ) (l m : Lease) → lease_at p j ≡ Some l → lease_at p k ≡ Some m → l.pid ≡ m.pid → l.epoch ≡ m.epoch → j ≡ k
  pub answers : (k : ℕ) (l : Lease) (a : TaskAnswer) → seat_at p k ≡ Answered l a → is_current p l ≡ true → FitsNeed w l.pid a
