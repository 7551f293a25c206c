-- What a drill makes of the empty world, as events of the machine one after another.
use Rattle.std.specs.Prelude.{◌≡◌, ◌⊎◌, ◌≤◌, ◌*◌, ℕ, zero, suc, false, List, [], length}
use Rattle.wc_journal.specs.declared.journal.Journal.{Journal}
use Rattle.wc_state.specs.declared.record.Limits.{Limits}
use Rattle.wc_store.specs.Stepped.{IsAsBefore}
use Rattle.wc_store.specs.declared.store.Store.{Store}
use Rattle.wc_world.specs.declared.change.Change.{Change}
use Rattle.wc_world.specs.World.{World, empty}
use Rattle.wc_world.specs.Accepted.{IsAccepted}
use Rattle.wc_world.specs.Applied.{applied}
use Rattle.wc_machine.specs.Machine.{Event, Leads, submit}
use Rattle.wc_ends.specs.Runner.Standing.{is_any_live}
use Rattle.wc_ends.specs.Runner.Leaves.{SomeTurns}
use Rattle.wc_ends.specs.Runner.Outside.{Outside}
use Rattle.wc_ends.specs.Runner.Runs.{FitsIn, TakesTurns}
use Rattle.wc_drill.specs.Draws.{first_number, second_number}
use Rattle.wc_drill.specs.Library.{library, chain_name, chain_inputs}
use Rattle.wc_drill.specs.Squares.{IsSquared}

-- ---- what is fixed

-- the limits where none are set
abbrev pub usual_limits : Limits
usual_limits = record { max_nodes = 1000000; max_bytes = 268435456; poll_ms = 1000 }

-- any moment may be said, and any reply given, but that a result is the square of a number; the limits are the usual ones
abbrev pub outside : Outside
outside = record {
  said = λ moment. Unit {0};
  gave = λ dir t q reply. Unit {0};
  brings = IsSquared;
  failed = Unit {0};
  limits = usual_limits;
}

-- how many turns so many chains take: six for a chain (three steps, two bindings and its end), five for each of its two jobs, and one for its function
abbrev pub turns_of : ℕ → ℕ
turns_of chains = 17 * chains

-- the world, by its journal, is the store's, or both are within the limits
abbrev pub StaysOrFits : Store → World → Journal → Type 0
StaysOrFits store v journal = IsAsBefore store v journal ⊎ FitsIn usual_limits v journal

-- ---- submissions

-- a chain with these two numbers is submitted, with no caching
abbrev pub submits_chain : (first second : ℕ) → Event
submits_chain first second = submit library [] chain_name (chain_inputs first second)

-- One world is what the submission of a chain with these numbers makes of another, within the limit of nodes.
pub record IsSubmitted (first second : ℕ) (w v : World) : Type 0 where
  pub changes : List Change
  pub leads : Leads usual_limits.poll_ms w (submits_chain first second) changes
  pub accepted : IsAccepted w changes
  pub after : v ≡ applied w changes
  pub nodes : length v.nodes ≤ usual_limits.max_nodes

-- So many chains, with the numbers that are drawn from the seed, are submitted one after another.
pub data Submitted (seed : ℕ) : (chains : ℕ) → World → World → Type 0 where
  none : (w : World) → Submitted seed zero w w
  one_more : (n : ℕ) (u v w : World) → Submitted seed n u v → IsSubmitted (first_number n seed) (second_number n seed) v w → Submitted seed (suc n) u w

-- ---- a drill

-- What a drill of so many chains has made of the empty world at some moment: the first of its chains are submitted, and once all are, turns
-- and rests follow, within the limit of nodes.
pub record Drills (seed count : ℕ) (v : World) : Type 0 where
  pub chains : ℕ
  pub some : chains ≤ count
  pub begun : World
  pub submitted : Submitted seed chains empty begun
  pub takes : SomeTurns outside (turns_of count) begun v
  pub order : (v ≡ begun) ⊎ (chains ≡ count)

-- What it has made so, kept by a journal of version 2 and generation 1; both are within the limits.
pub record DrillsBy (seed count : ℕ) (v : World) (journal : Journal) : Type 0 where
  pub drills : Drills seed count v
  pub fits : FitsIn usual_limits v journal
  pub version : journal.version ≡ 2
  pub generation : journal.generation ≡ 1

-- What it has made in the end: all of its chains are submitted, turns and rests follow, and each process has ended.
pub record HasDrilled (seed count : ℕ) (v : World) : Type 0 where
  pub begun : World
  pub submitted : Submitted seed count empty begun
  pub takes : TakesTurns outside (turns_of count) begun v
  pub ended : is_any_live v ≡ false
