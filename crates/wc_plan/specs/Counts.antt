-- What is counted in a call that makes a plan.
use Rattle.std.specs.Prelude.{◌≡◌, ℕ, Result, Ok, Err}
use Rattle.wc_io.specs.Counts.{RisesByOne}
use Rattle.wc_plan.specs.declared.error.PlanError.{PlanError}
use Rattle.wc_plan.specs.declared.error.PlanError.TheVariants as plan_error

-- `ReadFault` comes only where the shelf's count rose by one and its last read failed, and each other answer leaves the count
abbrev pub CountsShelf : {T : Type 0} → Result T PlanError → ℕ → ℕ → Type 0 → Type 0
CountsShelf (Ok answer) old new failed = new ≡ old
CountsShelf (Err plan_error.OutOfMemory) old new failed = new ≡ old
CountsShelf (Err plan_error.ReadFault) old new failed = RisesByOne old new × failed
