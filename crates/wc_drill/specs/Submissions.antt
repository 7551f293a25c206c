-- What a submission of a chain is made ready as, and what it leaves.
use Rattle.std.specs.Prelude.{◌≡◌, ◌⊎◌, ◌≤◌, ℕ, true, List}
use Rattle.wc_journal.specs.declared.journal.Journal.{Journal}
use Rattle.wc_state.specs.declared.record.What.{What}
use Rattle.wc_world.specs.declared.change.Change.{Change}
use Rattle.wc_world.specs.World.{World}
use Rattle.wc_world.specs.Accepted.{IsAccepted}
use Rattle.wc_world.specs.Applied.{applied}
use Rattle.wc_machine.specs.Machine.{Leads}
use Rattle.wc_machine.specs.Refusals.{HasRoom, IsFull}
use Rattle.wc_store.specs.Held.{is_plain}
use Rattle.wc_store.specs.Refusals.{RefusesCommit}
use Rattle.wc_store.specs.declared.store.Store.{Store}
use Rattle.wc_store.specs.declared.error.StoreError.TheVariants as store_error
use Rattle.wc_ends.specs.Runner.declared.error.RunError.{RunError}
use Rattle.wc_ends.specs.Runner.declared.error.RunError.TheVariants.{DiskFault, Full, OutOfMemory}
use Rattle.wc_drill.specs.Drilled.{usual_limits, submits_chain, IsSubmitted, StaysOrFits, Submitted}

-- The changes are those of the submission of a chain with these numbers, and a store may commit them.
pub record IsStorable (first second : ℕ) (w : World) (cs : List Change) : Type 0 where
  pub leads : Leads usual_limits.poll_ms w (submits_chain first second) cs
  pub accepted : IsAccepted w cs
  pub plain : is_plain cs ≡ true
  pub room : HasRoom usual_limits.max_nodes (applied w cs)

-- The world would have too many nodes, or else too many batches, after the submission.
abbrev pub IsCrowded : (first second : ℕ) → World → RunError → Type 0
IsCrowded first second w DiskFault = ⊥
IsCrowded first second w (Full what count limit) =
    (cs : List Change) × Leads usual_limits.poll_ms w (submits_chain first second) cs × IsFull usual_limits.max_nodes (applied w cs) what count limit
IsCrowded first second w OutOfMemory = Unit {0}

-- The world takes the changes of the submission, and would have neither too many nodes nor too many batches after them, but this journal would
-- have too many bytes.
pub record IsOverlong (first second : ℕ) (journal : Journal) (w : World) (what : What) (count limit : ℕ) : Type 0 where
  pub changes : List Change
  pub leads : Leads usual_limits.poll_ms w (submits_chain first second) changes
  pub accepted : IsAccepted w changes
  pub room : HasRoom usual_limits.max_nodes (applied w changes)
  pub refused : RefusesCommit journal usual_limits w changes (store_error.Full what count limit)

-- The submission is refused so at this world, by this journal. Faults and want of memory may come at any time.
abbrev pub RefusesChain : (first second : ℕ) → Journal → World → RunError → Type 0
RefusesChain first second journal w DiskFault = Unit {0}
RefusesChain first second journal w (Full what count limit) =
    IsCrowded first second w (Full what count limit) ⊎ IsOverlong first second journal w what count limit
RefusesChain first second journal w OutOfMemory = Unit {0}

-- the world, or what the submission of a chain makes of it
abbrev pub IsOrSubmitted : (first second : ℕ) → World → World → Type 0
IsOrSubmitted first second w v = (v ≡ w) ⊎ IsSubmitted first second w v

-- what the first of so many submissions make of the world
abbrev pub SubmittedSome : (seed count : ℕ) → World → World → Type 0
SubmittedSome seed count w v = (n : ℕ) × (n ≤ count) × Submitted seed n w v

-- ---- by their journals

-- a store comes to what a submission leaves, by its journal as it was, or within the limits
abbrev pub SubmitsOne : (first second : ℕ) → Store → World → Journal → Type 0
SubmitsOne first second store v journal = IsOrSubmitted first second store.world.world v × StaysOrFits store v journal

-- or to what the first of so many submissions leave
abbrev pub SubmitsSome : (seed count : ℕ) → Store → World → Journal → Type 0
SubmitsSome seed count store v journal = SubmittedSome seed count store.world.world v × StaysOrFits store v journal
