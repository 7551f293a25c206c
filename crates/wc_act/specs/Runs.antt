-- What `run` does to a store.
use Rattle.std.specs.Prelude.{◌≡◌, ◌⊎◌, ◌<◌, ℕ, ◌+◌, ◌-◌, true, false}
use Rattle.wc_journal.specs.declared.journal.Journal.{Journal}
use Rattle.wc_state.specs.declared.record.Limits.{Limits}
use Rattle.wc_state.specs.declared.record.What.{What}
use Rattle.wc_world.specs.World.{World}
use Rattle.wc_store.specs.Held.{a_world}
use Rattle.wc_drill.specs.Runner.Standing.{is_any_live, is_resting}
use Rattle.wc_drill.specs.Runner.declared.error.RunError.TheVariants.{Full}
use Rattle.wc_drill.specs.Runner.declared.runs.RunEnd.{RunEnd}
use Rattle.wc_drill.specs.Runner.declared.runs.RunEnd.TheVariants.{AllEnded, Spent, Resting}
use Rattle.wc_drill.specs.Runner.Outside.{Outside}
use Rattle.wc_drill.specs.Runner.Refusals.{RefusesStep}
use Rattle.wc_drill.specs.Runner.Runs.{TakesTurns}
use Rattle.wc_drill.specs.Runner.Trips.{Turns}
use Rattle.wc_report.specs.Lines.{committed_text, live_count, paused_count}
use Rattle.wc_plan.specs.declared.deed.RunOptions.{RunOptions}
use Rattle.wc_plan.specs.declared.reply.Reply.{Reply}
use Rattle.wc_plan.specs.declared.status.Status.{Status}
use Rattle.wc_plan.specs.declared.status.Status.TheVariants as status
use Rattle.wc_act.specs.StoreDeeds.{Images, Hold, GoesOn, Fits, is_full}

-- the status of a run that ended so: all ended, the turns spent, or resting
abbrev pub status_of : RunEnd → Status
status_of AllEnded = status.Ok
status_of Spent = status.Spent
status_of Resting = status.Resting

-- how many batches were committed since the first world, and what the other has
abbrev pub has_run : RunEnd → World → World → Reply
has_run end w v = record { status = status_of end; text = committed_text (v.batches - w.batches) (live_count v.records) (paused_count v.records) }

-- ---- the outside

-- any moment may be said, and any reply given, under these limits
abbrev pub widest : Limits → Outside
widest limits = record {
  said = λ moment. Unit {0};
  gave = λ dir t q reply. Unit {0};
  brings = λ q result. Unit {0};
  failed = Unit {0};
  limits = limits;
}

-- so many turns and rests in all lead from one world to the other
pub record TakesJust (limits : Limits) (all : ℕ) (w v : World) : Type 0 where
  pub count : ℕ
  pub rests : ℕ
  pub all_of_them : count + rests ≡ all
  pub turns : Turns (widest limits) count rests w v
  pub batches : v.batches ≡ w.batches + count

-- fewer than so many do
abbrev pub TakesFewer : Limits → (most : ℕ) → World → World → Type 0
TakesFewer limits most w v = (all : ℕ) × (all < most) × TakesJust limits all w v

-- ---- how a run ends

-- no process is live, or else each live one is held up, or else as many turns and rests were taken as are given
abbrev pub EndsSo : Limits → (turns : ℕ) → World → World → RunEnd → Type 0
EndsSo limits turns w v AllEnded = is_any_live v ≡ false
EndsSo limits turns w v Spent = (is_any_live v ≡ true) × (is_resting v ≡ false) × TakesJust limits turns w v
EndsSo limits turns w v Resting = (is_any_live v ≡ true) × (is_resting v ≡ true)

-- The run came to its end.
pub record HasRun (o : RunOptions) (w v : World) (r : Reply) : Type 0 where
  pub end : RunEnd
  pub ends : EndsSo o.limits o.turns w v end
  pub reply : r ≡ has_run end w v

-- Before all turns and rests that are given were taken, the store would be too full with the turn of a process, by this journal of it.
pub record FillsAt (o : RunOptions) (w v : World) (journal : Journal) (r : Reply) : Type 0 where
  pub left : TakesFewer o.limits o.turns w v
  pub what : What
  pub count : ℕ
  pub limit : ℕ
  pub pid : ℕ
  pub refused : RefusesStep (widest o.limits) journal v pid (Full what count limit)
  pub reply : r ≡ is_full what count limit

-- Turns and rests lead from the world to the one that the disks hold then, which is within the limits where any turn was taken; the
-- journal goes on. There the run came to its end, or found the store full by the journal that the disks hold then.
pub record Runs (o : RunOptions) (before : Images) (w : World) (after : Images) (r : Reply) : Type 0 where
  pub later : World
  pub takes : TakesTurns (widest o.limits) o.turns w later
  pub held : Hold after (a_world later)
  pub fits : (later ≡ w) ⊎ Fits o.limits after later
  pub journal : Journal
  pub next : Journal
  pub goes : GoesOn before after journal next
  pub ends : HasRun o w later r ⊎ FillsAt o w later next r
