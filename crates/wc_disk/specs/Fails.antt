-- When a call of a disk in memory fails.
use Rattle.std.specs.Prelude.{◌≡◌, ℕ, false, is_err, Result, IsTrue, IsErr, if◌then◌else◌}
use Rattle.wc_io.specs.declared.schedule.Schedule.{Schedule}
use Rattle.wc_io.specs.Schedule.{fails_next}
use Rattle.wc_io.specs.Counts.{counted}

-- A call that takes memory fails where it is listed, and where no memory was left. The second is counted apart.
pub record FailsAsListed {T E : Type 0} (schedule : Schedule) (starved starved_then : ℕ) (result : Result T E) : Type 0 where
  pub listed : IsTrue (fails_next schedule) → IsErr result × (starved_then ≡ starved)
  pub unlisted : fails_next schedule ≡ false → starved_then ≡ (if is_err result then counted starved else starved)
