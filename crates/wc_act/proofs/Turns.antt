-- What turns make of a store.
use Rattle.std.proofs.Common.{◌≡◌, ◌⊎◌, inl, inr, ℕ, subst}
use Rattle.wc_state.specs.declared.record.Limits.{Limits}
use Rattle.wc_state.specs.declared.record.What.{What}
use Rattle.wc_world.specs.World.{World}
use Rattle.wc_store.specs.declared.store.Store.{Store}
use Rattle.wc_store.specs.Stores.{IsOfImages}
use Rattle.wc_drill.specs.Runner.declared.error.RunError.TheVariants.{Full}
use Rattle.wc_drill.specs.Runner.declared.runs.RunEnd.{RunEnd}
use Rattle.wc_drill.specs.Runner.declared.runs.RunEnd.TheVariants.{AllEnded, Spent, Resting}
use Rattle.wc_drill.specs.Runner.Outside.{Outside}
use Rattle.wc_drill.specs.Runner.Refusals.{IsFullAt, RefusesStep}
use Rattle.wc_drill.specs.Runner.Runs.{TakesTurns, TakesFewer, FitsAfter}
use Rattle.wc_plan.specs.declared.deed.RunOptions.{RunOptions}
use Rattle.wc_plan.specs.declared.reply.Reply.{Reply}
use Rattle.wc_plan.specs.Replies.{IsReplied}
use Rattle.wc_act.specs.Runs.{status_of, widest, FillsAt, HasRun, TakesFewer as FewerTaken}
use Rattle.wc_act.specs.Owed.{DoneOn}
use Rattle.wc_act.specs.Rows.{run_row}
use Rattle.wc_act.specs.Undone.{IsBeforeTurns}
use Rattle.wc_act.proofs.Visiting.{AreOfStores, goes_on_journal, journal_of_images}
use Rattle.wc_act.proofs.Widening.{refuses_step, takes_fewer}
use Rattle.wc_act.specs.StoreDeeds.{Images, Fits, is_full}

pub run_replied : (e : RunEnd) → IsReplied (status_of e)
run_replied AllEnded = tt
run_replied Spent = tt
run_replied Resting = tt

-- a run that came to its end isn't refused
pub run_written : (e : RunEnd) → IsBeforeTurns (status_of e) → ⊥
run_written AllEnded h = h
run_written Spent h = h
run_written Resting h = h

-- a store within the limits
within : (limits : Limits) (w : World) (new : Store) (after : Images) → IsOfImages new after.0 after.1 → FitsAfter limits w new
    → (new.world.world ≡ w) ⊎ Fits limits after new.world.world
within limits w new after is (inl same) = inl same
within limits w new after is (inr fits) = inr (record { nodes = fits.0; journal = new.journal; kept = journal_of_images new after is; bytes = fits.1 })

-- a run came to its end, or found the store full
pub has_come : (p : RunOptions) (store new : Store) (r : Reply) → TakesTurns (widest p.limits) p.turns store.world.world new.world.world
    → FitsAfter p.limits store.world.world new
    → (new.place ≡ store.place) × (new.journal.generation ≡ store.journal.generation) × (new.journal.version ≡ store.journal.version)
    → HasRun p store.world.world new.world.world r ⊎ FillsAt p store.world.world new.world.world new.journal r
    → (before after : Images) → AreOfStores store new before after → DoneOn (run_row p) store.world.world r before after
has_come p store new r takes fits place ends before after are = (
  are.was.held,
  record {
    later = new.world.world;
    takes = takes;
    held = are.is.held;
    fits = within p.limits store.world.world new after are.is fits;
    journal = store.journal;
    next = new.journal;
    goes = goes_on_journal store new before after are place;
    ends = ends;
  },
)

-- why a run found the store full
pub fills_at : (o : Outside) (p : RunOptions) (w : World) (store : Store) (begun now : ℕ) (what : What) (count limit : ℕ) (r : Reply) → o.limits ≡ p.limits
    → IsFullAt o store (Full what count limit) → TakesFewer o p.turns w store.world.world begun now → r ≡ is_full what count limit
    → FillsAt p w store.world.world store.journal r
fills_at o p w store begun now what count limit r given full left reply =
    let v = store.world.world in
    let e = Full what count limit in
    record {
      left = subst (λ (l : Limits). FewerTaken l p.turns w v) given (takes_fewer o p.turns w v begun now left);
      what = what;
      count = count;
      limit = limit;
      pid = full.pid;
      refused = subst (λ (l : Limits). RefusesStep (widest l) store.journal v full.pid e) given (refuses_step o store.journal v full.pid e full.refused);
      reply = reply;
    }
