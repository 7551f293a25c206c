-- What `drill` does.
use Rattle.std.specs.Prelude.{◌≡◌, ◌⊎◌, ℕ, List, Option, Some, None}
use Rattle.wc_journal.specs.declared.journal.Journal.{Journal}
use Rattle.wc_state.specs.declared.record.What.{What}
use Rattle.wc_world.specs.World.{World}
use Rattle.wc_store.specs.Held.{Standing, nothing, damage, a_world}
use Rattle.wc_store.specs.declared.place.Place.TheVariants.{One}
use Rattle.wc_drill.specs.Runner.declared.error.RunError.TheVariants.{Full}
use Rattle.wc_drill.specs.Draws.{sum_of_squares}
use Rattle.wc_drill.specs.Texts.{drilled_text}
use Rattle.wc_drill.specs.Drilled.{Drills, HasDrilled}
use Rattle.wc_drill.specs.Refusals.{IsTooFullFor}
use Rattle.wc_drill.specs.declared.error.DrillError.{DrillError}
use Rattle.wc_drill.specs.declared.error.DrillError.TheVariants as drill_error
use Rattle.wc_plan.specs.declared.reply.Reply.{Reply}
use Rattle.wc_plan.specs.declared.status.Cause.TheVariants as cause
use Rattle.wc_plan.specs.Replies.{refuses, prints}
use Rattle.wc_act.specs.StoreDeeds.{Images, Hold, HasJournal, is_damaged, is_full}

-- ---- how it ends

-- what was generated, the squares of the numbers drawn, added up, and the number of batches
abbrev pub has_drilled : (seed count : ℕ) → World → Reply
has_drilled seed count w = prints (drilled_text count (sum_of_squares count seed) w.batches)

-- The drill has come to its end at this world, where no process is live.
pub record HasEnded (seed count : ℕ) (w : World) (r : Reply) : Type 0 where
  pub ends : HasDrilled seed count w
  pub reply : r ≡ has_drilled seed count w

-- The drill has come to this world, and the store would be too full with the next chain, or with the turn of a process, by this journal of it.
pub record FillsUp (seed count : ℕ) (w : World) (journal : Journal) (r : Reply) : Type 0 where
  pub drills : Drills seed count w
  pub what : What
  pub many : ℕ
  pub limit : ℕ
  pub refused : IsTooFullFor seed count journal w (Full what many limit)
  pub reply : r ≡ is_full what many limit

-- The disks hold the world to which the drill has come, by a journal of version 2 and generation 1 on disk one: there it ended, or would be too
-- full by that journal. Disk two reads as before.
pub record IsDrilled (seed count : ℕ) (before after : Images) (r : Reply) : Type 0 where
  pub world : World
  pub held : Hold after (a_world world)
  pub rest : after.1 ≡ before.1
  pub journal : Journal
  pub kept : HasJournal after journal
  pub place : kept.place ≡ One
  pub version : journal.version ≡ 2
  pub generation : journal.generation ≡ 1
  pub ends : HasEnded seed count world r ⊎ FillsUp seed count world journal r

-- a store is made, and chains run in it, where there is none
abbrev pub DrillAt : (seed count : ℕ) → Images → Standing → Images → Reply → Type 0
DrillAt seed count before nothing after r = IsDrilled seed count before after r
DrillAt seed count before (damage disk at found) after r = (after ≡ before) × (r ≡ is_damaged disk at found)
DrillAt seed count before (a_world w) after r = (after ≡ before) × (r ≡ refuses cause.StoreExists)

-- what is acknowledged of a world: each chain has run to its end, and its numbers were written
abbrev pub IsToldDrilled : (seed count : ℕ) → List ℕ → World → Type 0
IsToldDrilled seed count text w = HasDrilled seed count w × (text ≡ drilled_text count (sum_of_squares count seed) w.batches)

-- ---- what breaks it off

-- what is told of a drill that has no end, if anything is
abbrev pub broken_reply : DrillError → Option Reply
broken_reply drill_error.DiskFault = None
broken_reply (drill_error.Damaged disk at found) = Some (is_damaged disk at found)
broken_reply (drill_error.Full what count limit) = Some (is_full what count limit)
broken_reply drill_error.AlreadyThere = Some (refuses cause.StoreExists)
broken_reply drill_error.OutOfMemory = None
