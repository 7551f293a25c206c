-- What each deed promises: one row each.
use Rattle.std.specs.Prelude.{◌≡◌, ◌⊎◌, ℕ, false, true, List}
use Rattle.wc_journal.specs.declared.journal.Journal.{Journal}
use Rattle.wc_world.specs.World.{World, empty}
use Rattle.wc_store.specs.Held.{Standing}
use Rattle.wc_store.specs.Places.{its, opposite}
use Rattle.wc_store.specs.Stores.{IsFirst, IsNextOf}
use Rattle.wc_report.specs.Lines.{submitted_text, paused_text, playing_text, killed_text}
use Rattle.wc_plan.specs.declared.deed.Asked.{Asked}
use Rattle.wc_plan.specs.declared.deed.Asked.TheVariants as asked
use Rattle.wc_plan.specs.declared.deed.Begin.{Begin}
use Rattle.wc_plan.specs.declared.deed.Begin.TheVariants as begin
use Rattle.wc_plan.specs.declared.deed.Deed.{Deed}
use Rattle.wc_plan.specs.declared.deed.Deed.TheVariants as deed
use Rattle.wc_plan.specs.declared.deed.Shown.{Shown}
use Rattle.wc_plan.specs.declared.deed.RunOptions.{RunOptions}
use Rattle.wc_plan.specs.declared.deed.Work.{Work}
use Rattle.wc_plan.specs.declared.deed.Work.TheVariants as work
use Rattle.wc_plan.specs.declared.reply.Reply.{Reply}
use Rattle.wc_plan.specs.declared.status.Status.{Status}
use Rattle.wc_drill.specs.Drilled.{DrillsBy}
use Rattle.wc_act.specs.Acknowledged.{HasProcess, HasMark, IsKilled}
use Rattle.wc_act.specs.Drills.{DrillAt, IsToldDrilled}
use Rattle.wc_act.specs.Events.{MayHappen, Enters}
use Rattle.wc_act.specs.Exchanges.{Exchange}
use Rattle.wc_act.specs.Runs.{Runs}
use Rattle.wc_act.specs.StoreDeeds.{GoesOn, HasJournal, Images, InitAt, AtStore, Packs}
use Rattle.wc_act.specs.Undone.{IsBeforeStoring, IsBeforeTurns, IsBeforePacking}
use Rattle.wc_act.specs.Views.{ShowsStill}

-- ---- what is done on a store that is there

-- What is promised of work on a store that is there: what it may make of the world at any moment, from which images in which, by what it had of the
-- transport and the clock (`makes`), what it has done once it replied (`does`), whether one reply at most is owed (`certain`), the statuses with which
-- nothing was written (`undone`), and what the world at exit has once this text was written with Ok (`acknowledges`)
pub record WorkRow : Type 1 where
  -- what it may make of the world, from which images in which, at any moment, by what it has had of the transport and the clock
  pub makes : Exchange → (before : Images) → World → World → (after : Images) → Type 0
  -- what it has done, from the images at entry to those at exit, and its reply
  pub does : Images → World → Images → Reply → Type 0
  -- one reply at most is owed for the images at entry and at exit
  pub certain : Type 0
  -- the statuses with which nothing was written
  pub undone : Status → Type 0
  -- what the world has that is held at exit, once this text is written with status Ok
  pub acknowledges : List ℕ → World → Type 0

-- The world is the same, and its journal goes on.
pub record Stays (before : Images) (w v : World) (after : Images) : Type 0 where
  pub same : v ≡ w
  pub journal : Journal
  pub next : Journal
  pub goes : GoesOn before after journal next

-- the row of a view and of a query: the world stays, nothing is written, and one reply at most is owed
abbrev pub view_row : Shown → WorkRow
view_row v = record {
  makes = λ e. Stays;
  does = ShowsStill v;
  certain = Unit {0};
  undone = λ s. Unit {0};
  acknowledges = λ text w. Unit {0};
}

-- the process that is submitted is there, with the number that was written; or the process of the number that was written is paused, plays,
-- or is killed
abbrev pub HasHappened : Asked → List ℕ → World → Type 0
HasHappened (asked.Submit s) text w = (pid : ℕ) × (text ≡ submitted_text pid) × HasProcess w pid s
HasHappened (asked.Pause pid) text w = (text ≡ paused_text pid) × HasMark w pid true
HasHappened (asked.Play pid) text w = (text ≡ playing_text pid) × HasMark w pid false
HasHappened (asked.Kill pid) text w = (text ≡ killed_text pid) × IsKilled w pid

-- the row of an event: the world stays, or the event happens to it; one reply at most is owed
abbrev pub event_row : Asked → WorkRow
event_row a = record {
  makes = λ e. MayHappen a;
  does = Enters a;
  certain = Unit {0};
  undone = IsBeforeStoring;
  acknowledges = HasHappened a;
}

-- The journal goes on, and by it the images hold what at most as many turns and rests as are given led to, with this transport and this clock: the same
-- world, or one that is within the run's limits, as its journal is.
pub record TakesSome (o : RunOptions) (e : Exchange) (before : Images) (w v : World) (after : Images) : Type 0 where
  pub journal : Journal
  pub next : Journal
  pub goes : GoesOn before after journal next
  pub led : e.leads o.limits o.turns w journal v next

-- any ready process may be the one for which the store is too full, so that its reply isn't certain
abbrev pub run_row : RunOptions → WorkRow
run_row o = record {
  makes = TakesSome o;
  does = Runs o;
  certain = ⊥;
  undone = IsBeforeTurns;
  acknowledges = λ text w. Unit {0};
}

-- The world is the same, and the disk that the store is on reads as before. Its journal is the same one on that disk, or the next one on the other disk.
pub record StaysMoving (before : Images) (w v : World) (after : Images) : Type 0 where
  pub same : v ≡ w
  pub journal : Journal
  pub next : Journal
  pub was : HasJournal before journal
  pub is : HasJournal after next
  pub still : its was.place after.0 after.1 ≡ its was.place before.0 before.1
  pub moved : ((next ≡ journal) × (is.place ≡ was.place)) ⊎ (IsNextOf journal w next × (is.place ≡ opposite was.place))

-- the row of `pack`: the world stays, and may move to the other disk; one reply at most is owed
abbrev pub pack_row : WorkRow
pack_row = record {
  makes = λ e. StaysMoving;
  does = Packs;
  certain = Unit {0};
  undone = IsBeforePacking;
  acknowledges = λ text w. Unit {0};
}

-- The row of each kind of work
abbrev pub work_row : Work → WorkRow
work_row (work.View v) = view_row v
work_row (work.Event a) = event_row a
work_row (work.Run o) = run_row o
work_row work.Pack = pack_row

-- ---- deeds

-- What is promised of a deed: what `WorkRow` has, and the worlds, by their journals, with which it may begin a store where there is none (`begins`)
pub record Row : Type 1 where
  -- with which worlds, by which journals, it may begin a store, at any moment, where there is none
  pub begins : World → Journal → Type 0
  pub makes : Exchange → (before : Images) → World → World → (after : Images) → Type 0
  -- what it has done, by what the images hold at entry
  pub does : Images → Standing → Images → Reply → Type 0
  pub certain : Type 0
  pub undone : Status → Type 0
  pub acknowledges : List ℕ → World → Type 0

-- of a world that is there nothing is made
abbrev pub MakesNothing : Images → World → World → Images → Type 0
MakesNothing before w v after = ⊥

-- the world is the empty one, by the first journal
abbrev pub IsEmpty : World → Journal → Type 0
IsEmpty v journal = (v ≡ empty) × IsFirst journal

-- any ready process may be the one for which the store is too full, so that its reply isn't certain
abbrev pub drill_row : (seed count : ℕ) → Row
drill_row seed count = record {
  begins = DrillsBy seed count;
  makes = λ e. MakesNothing;
  does = DrillAt seed count;
  certain = ⊥;
  undone = IsBeforeTurns;
  acknowledges = IsToldDrilled seed count;
}

-- the row of a deed that begins a store: `init`, or a drill
abbrev pub begin_row : Begin → Row
begin_row begin.Init = record {
  begins = IsEmpty;
  makes = λ e. MakesNothing;
  does = InitAt;
  certain = Unit {0};
  undone = IsBeforeStoring;
  acknowledges = λ text w. Unit {0};
}
begin_row (begin.Drill seed count) = drill_row seed count

-- where there is no store, or a disk is damaged, this is told and nothing is done
abbrev pub on_store : WorkRow → Row
on_store k = record {
  begins = λ v journal. ⊥;
  makes = k.makes;
  does = λ before. AtStore before (k.does before);
  certain = k.certain;
  undone = k.undone;
  acknowledges = k.acknowledges;
}

-- The row of each deed; work on a store begins none, and where there is no store, or a disk is damaged, that is told and nothing is done
abbrev pub row : Deed → Row
row (deed.Begin b) = begin_row b
row (deed.Work w) = on_store (work_row w)
