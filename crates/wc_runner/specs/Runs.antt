-- What a run has done, and how it ends.
use Rattle.std.specs.Prelude.{◌≡◌, ◌⊎◌, ◌<◌, ◌≤◌, ◌+◌, ◌^◌, ℕ, true, false, length, Result, Ok, Err}
use Rattle.wc_journal.specs.declared.journal.Journal.{Journal}
use Rattle.wc_state.specs.declared.record.Limits.{Limits}
use Rattle.wc_world.specs.World.{World}
use Rattle.wc_store.specs.Refusals.{byte_limit}
use Rattle.wc_store.specs.declared.store.Store.{Store}
use Rattle.wc_core.specs.Standing.{is_any_live, is_resting}
use Rattle.wc_runner.specs.Outside.{Outside}
use Rattle.wc_runner.specs.Trips.{Turns}
use Rattle.wc_runner.specs.declared.error.RunError.{RunError}
use Rattle.wc_runner.specs.declared.runs.RunEnd.{RunEnd}
use Rattle.wc_runner.specs.declared.runs.RunEnd.TheVariants.{AllEnded, Spent, Resting}

-- At most so many turns and rests, of which each turn is one batch, lead from one world to the other.
pub record TakesTurns (o : Outside) (most : ℕ) (w v : World) : Type 0 where
  pub count : ℕ
  pub rests : ℕ
  pub few : count + rests ≤ most
  pub turns : Turns o count rests w v
  pub batches : v.batches ≡ w.batches + count

-- a count has risen by so many, where it stays below its end
pub record RisesBy (n old new : ℕ) : Type 0 where
  pub later : old ≤ new
  pub by_each : old + n < 2 ^ 64 → new ≡ old + n

-- So many turns and rests in all lead from one world to the other, where the pacer counted each rest.
pub record TakesAll (o : Outside) (all : ℕ) (w v : World) (begun now : ℕ) : Type 0 where
  pub count : ℕ
  pub rests : ℕ
  pub all_of_them : count + rests ≡ all
  pub turns : Turns o count rests w v
  pub batches : v.batches ≡ w.batches + count
  pub rested : RisesBy rests begun now

-- at most so many were taken, with their counts
abbrev pub TakesUpTo : Outside → (most : ℕ) → World → World → (begun now : ℕ) → Type 0
TakesUpTo o most w v begun now = (all : ℕ) × (all ≤ most) × TakesAll o all w v begun now

-- fewer than so many were taken
abbrev pub TakesFewer : Outside → (most : ℕ) → World → World → (begun now : ℕ) → Type 0
TakesFewer o most w v begun now = (all : ℕ) × (all < most) × TakesAll o all w v begun now

-- A run of at most so many turns and rests ends so: no process is live, else each live one is held up, else all were taken.
abbrev pub EndsAs : Outside → (most : ℕ) → World → World → (begun now : ℕ) → RunEnd → Type 0
EndsAs o most w v begun now AllEnded = is_any_live v ≡ false
EndsAs o most w v begun now Spent = (is_any_live v ≡ true) × (is_resting v ≡ false) × TakesAll o most w v begun now
EndsAs o most w v begun now Resting = (is_any_live v ≡ true) × (is_resting v ≡ true)

-- a run that came to an end ended so, and one that broke off had taken fewer
abbrev pub Ends : Outside → (most : ℕ) → World → World → (begun now : ℕ) → Result RunEnd RunError → Type 0
Ends o most w v begun now (Ok end) = EndsAs o most w v begun now end
Ends o most w v begun now (Err e) = TakesFewer o most w v begun now

-- the world is within the limit of nodes, and its journal within that of bytes
abbrev pub FitsIn : Limits → World → Journal → Type 0
FitsIn limits w journal = (length w.nodes ≤ limits.max_nodes) × (journal.end + 1 ≤ byte_limit journal.version limits.max_bytes)

-- so is the store, where any turn was taken
abbrev pub FitsAfter : Limits → World → Store → Type 0
FitsAfter limits w store = (store.world.world ≡ w) ⊎ FitsIn limits store.world.world store.journal

-- what at most so many turns and rests make of the world, within the limits where any turn was taken
abbrev pub TakesWithin : Outside → (most : ℕ) → World → World → Journal → Type 0
TakesWithin o most w v journal = TakesTurns o most w v × ((v ≡ w) ⊎ FitsIn o.limits v journal)
