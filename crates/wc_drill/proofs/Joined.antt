-- A drill as a whole: what its submissions and its run make and leave on a new store.
use Rattle.std.proofs.Common.{◌≡◌, inl, inr, ℕ, true, List, Err, refl, subst, arith}
use Rattle.wc_disk.specs.declared.disk.Disk as disk
use Rattle.wc_journal.specs.declared.journal.Journal.{Journal}
use Rattle.wc_journal.specs.Reading.{batches_of, journal_of}
use Rattle.wc_world.specs.World.{World, empty}
use Rattle.wc_ends.specs.Runner.Leaves.{SomeTurns}
use Rattle.wc_ends.specs.Runner.Refusals.{RefusesRun, is_live_after}
use Rattle.wc_ends.specs.Runner.Trips as trips
use Rattle.wc_ends.specs.Runner.declared.error.RunError.{RunError}
use Rattle.wc_ends.specs.Runner.declared.error.RunError.TheVariants as run
use Rattle.wc_ends.specs.Runner.declared.runs.RunEnd.{RunEnd}
use Rattle.wc_store.specs.Choices.{chosen, on}
use Rattle.wc_store.specs.Places.{its, number_of}
use Rattle.wc_store.specs.Stepped.{CountsFaults}
use Rattle.wc_store.specs.Stores.{other, IsOfImages, LeadsTo, StandsFor}
use Rattle.wc_store.specs.declared.place.Place.{Place}
use Rattle.wc_store.specs.declared.store.Store.{Store}
use Rattle.wc_drill.specs.Drilled.{Drills, HasDrilled, Submitted, outside, turns_of}
use Rattle.wc_drill.specs.Leaves.{AreDurable, IsHeldAfter, HoldsOnOne, IsOnDiskOne, IsUnfailed}
use Rattle.wc_drill.specs.Refusals.{Counts, RefusesChains, RefusesDrilled, of_run}
use Rattle.wc_drill.specs.Runs.{EndsAll, TakesFewer}
use Rattle.wc_drill.specs.Submissions.{SubmittedSome}

none_taken : (most : ℕ) (w : World) → SomeTurns outside most w w
none_taken most w = (record { count = 0; rests = 0; few = omega arith; turns = trips.none w; batches = omega arith }, inl refl)

-- what the first submissions make
pub of_some : (seed count : ℕ) (v : World) → SubmittedSome seed count empty v → Drills seed count v
of_some seed count v s = record { chains = s.0; some = s.1; begun = v; submitted = s.2; takes = none_taken (turns_of count) v; order = inl refl }

-- what turns make once all are submitted
pub of_turns : (seed count : ℕ) (u v : World) → Submitted seed count empty u → SomeTurns outside (turns_of count) u v → Drills seed count v
of_turns seed count u v s t = record { chains = count; some = omega arith; begun = u; submitted = s; takes = t; order = inr refl }

-- ---- a new store

-- what two images hold that hold a store on disk one
holds_of : (store : Store) (one two : List ℕ) → IsOnDiskOne store → IsOfImages store one two → HoldsOnOne one two store.world.world store.journal
holds_of store one two made o = record {
  held = o.held;
  batches = o.batches;
  chooses = subst (λ (p : Place). chosen one two ≡ on (number_of p) store.journal.version store.journal.generation o.batches) made.0 o.chooses;
  end = o.end;
  generation = made.1;
  version = made.2;
}

-- what a store on disk one comes to by those that it leads to
pub comes_to : {D : Type 0} (g : disk.Ghosts D) (told : Type 0) (old store : Store) (one two : D) → IsOnDiskOne old → IsOnDiskOne store → LeadsTo old store
    → (told → StandsFor g store one two) → IsHeldAfter g told old one two store.world.world store.journal
comes_to g told old store one two made still leads stands = record {
  seen = λ t.
      let s = stands t in
      holds_of store (g.seen one) (g.seen two) still
      (record { batches = batches_of (journal_of (g.seen (its store.place one two))); chooses = s.chooses; held = s.held; end = s.settled.stands.end });
  beside = λ first second o.
      let led = leads first second o in (
        led.one_new,
        subst (λ (rest : List ℕ). HoldsOnOne led.one_new rest store.world.world store.journal)
            (subst (λ (p : Place). other p led.one_new led.two_new ≡ other p first second) made.0 led.rest)
            (holds_of store led.one_new led.two_new still led.are),
      );
}

-- what is answered once each process has ended
abbrev pub IsDone : (Holds : World → Journal → Type 0) → (seed count : ℕ) → ℕ → Type 0
IsDone Holds seed count batches = (w : World) × HasDrilled seed count w × (batches ≡ w.batches) × ((journal : Journal) × Holds w journal)

-- a store is left, whose world is held so by its journal where it is live
module _ (seed count : ℕ) (Holds : World → Journal → Type 0) (store : Store) (holds : store.live ≡ true → Holds store.world.world store.journal) where
  -- the submissions broke off
  pub chains_refused : (w : World) → w ≡ empty → SubmittedSome seed count w store.world.world → (e : RunError)
      → store.live ≡ is_live_after {T = Unit {0}} (Err e) → RefusesChains seed count w store e → RefusesDrilled Holds seed count (of_run e)
  chains_refused w bare some run.DiskFault live refused = tt
  chains_refused w bare some (run.Full what most limit) live refused = record {
    world = store.world.world;
    drills = of_some seed count store.world.world (subst (λ (x : World). SubmittedSome seed count x store.world.world) bare some);
    journal = store.journal;
    holds = holds live;
    refused = inl (
      refused.chain,
      refused.before,
      subst (λ (x : World). Submitted seed refused.chain x store.world.world) bare refused.submitted,
      refused.refused,
    );
  }
  chains_refused w bare some run.OutOfMemory live refused = tt

  -- all were submitted, and turns were taken
  module _ (begun : World) (submitted : Submitted seed count empty begun) (takes : SomeTurns outside (turns_of count) begun store.world.world) where
    -- the run broke off
    pub run_refused : (e : RunError) → store.live ≡ is_live_after {T = RunEnd} (Err e) → TakesFewer (turns_of count) begun store.world.world
        → RefusesRun outside store e → RefusesDrilled Holds seed count (of_run e)
    run_refused run.DiskFault live fewer refused = tt
    run_refused (run.Full what most limit) live fewer refused = record {
      world = store.world.world;
      drills = of_turns seed count begun store.world.world submitted takes;
      journal = store.journal;
      holds = holds live;
      refused = inr (record { begun = begun; submitted = submitted; fewer = fewer; pid = refused.pid; refused = refused.refused });
    }
    run_refused run.OutOfMemory live fewer refused = tt

    -- the run ended every process
    pub run_done : store.live ≡ true → (end : RunEnd) → EndsAll store.world.world end → (batches : ℕ) → batches ≡ store.world.world.batches → IsDone Holds seed count batches
    run_done live end ends batches is =
        (store.world.world, record { begun = begun; submitted = submitted; takes = takes.0; ended = ends.1 }, is, (store.journal, holds live))

-- ---- what stands in the end

pub durable : {D : Type 0} (g : disk.Ghosts D) (store : Store) (one two : D) → StandsFor g store one two → AreDurable g one two
durable g store one two s = record { durable_one = s.durable_one; durable_two = s.durable_two }

-- a store that is left by what broke off is live where no disk failed
pub live_unfailed : (A B : Type 0) (e : RunError) → IsUnfailed {T = B} (Err (of_run e)) → is_live_after {T = A} (Err e) ≡ true
live_unfailed A B run.DiskFault whole = absurd whole
live_unfailed A B (run.Full what most limit) whole = refl
live_unfailed A B run.OutOfMemory whole = refl

-- ---- counts

pub counts_broken : (A B : Type 0) (e : RunError) (one one_new two two_new : ℕ) (failed_one failed_two : Type 0)
    → CountsFaults (is_live_after {T = A} (Err e)) one one_new two two_new failed_one failed_two → Counts {T = B} (Err (of_run e)) one one_new two two_new failed_one failed_two
counts_broken A B run.DiskFault one one_new two two_new failed_one failed_two h = h
counts_broken A B (run.Full what most limit) one one_new two two_new failed_one failed_two h = h
counts_broken A B run.OutOfMemory one one_new two two_new failed_one failed_two h = h
