-- How the run of a drill ends.
use Rattle.std.specs.Prelude.{◌≡◌, ℕ, ◌+◌, ◌<◌, false}
use Rattle.wc_journal.specs.declared.journal.Journal.{Journal}
use Rattle.wc_store.specs.declared.store.Store.{Store}
use Rattle.wc_world.specs.World.{World}
use Rattle.wc_ends.specs.Runner.Leaves.{SomeTurns}
use Rattle.wc_ends.specs.Runner.Standing.{is_any_live}
use Rattle.wc_ends.specs.Runner.declared.runs.RunEnd.{RunEnd}
use Rattle.wc_ends.specs.Runner.declared.runs.RunEnd.TheVariants.{AllEnded}
use Rattle.wc_ends.specs.Runner.Trips.{Turns}
use Rattle.wc_drill.specs.Drilled.{StaysOrFits, outside}

-- so many turns and rests in all lead from one world to the other
pub record TakesJust (all : ℕ) (w v : World) : Type 0 where
  pub count : ℕ
  pub rests : ℕ
  pub all_of_them : count + rests ≡ all
  pub turns : Turns outside count rests w v

-- fewer than so many were taken
abbrev pub TakesFewer : (most : ℕ) → World → World → Type 0
TakesFewer most w v = (all : ℕ) × (all < most) × TakesJust all w v

-- the run came to an end at which no process is live
abbrev pub EndsAll : World → RunEnd → Type 0
EndsAll v end = (end ≡ AllEnded) × (is_any_live v ≡ false)

-- a store comes to what at most so many turns and rests make, by its journal as it was, or within the limits
abbrev pub TakesSome : (most : ℕ) → Store → World → Journal → Type 0
TakesSome most store v journal = SomeTurns outside most store.world.world v × StaysOrFits store v journal
