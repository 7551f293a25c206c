-- A new store on which all chains were submitted, and then turns were taken.
use Rattle.std.proofs.Common.{◌≡◌, ℕ, Bool, true, Err, refl, sym, subst, ◌∙◌}
use Rattle.std.specs.Prelude.{IsTrue}
use Rattle.wc_disk.specs.declared.disk.Disk as disk
use Rattle.wc_world.specs.World.{World, empty}
use Rattle.wc_journal.specs.declared.journal.Journal.{Journal}
use Rattle.wc_ends.specs.Runner.Runs.{FitsIn}
use Rattle.wc_ends.specs.Runner.Refusals.{RefusesRun, is_live_after}
use Rattle.wc_ends.specs.Runner.declared.error.RunError.{RunError}
use Rattle.wc_ends.specs.Runner.declared.runs.RunEnd.{RunEnd}
use Rattle.wc_store.specs.Stepped.{InGeneration, LeavesHeld, Stepped}
use Rattle.wc_store.specs.Stores.{IsNew}
use Rattle.wc_store.specs.declared.place.Place.{Place}
use Rattle.wc_store.specs.declared.place.Place.TheVariants.{One}
use Rattle.wc_store.specs.declared.store.Store.{Store}
use Rattle.wc_store.proofs.Stepping.{stepped_then, weaker_leaves, weaker_step}
use Rattle.wc_drill.specs.declared.error.DrillError.{DrillError}
use Rattle.wc_drill.specs.Drilled.{Drills, DrillsBy, Submitted, outside, turns_of, usual_limits}
use Rattle.wc_drill.specs.Leaves.{AreDurable, IsHeldAfter, IsOnDiskOne, IsUnfailed}
use Rattle.wc_drill.specs.Refusals.{Counts, RefusesChains, RefusesDrilled, of_run}
use Rattle.wc_drill.specs.Runs.{EndsAll, TakesFewer, TakesSome}
use Rattle.wc_drill.specs.Submissions.{SubmitsSome, SubmittedSome}
use Rattle.wc_drill.proofs.Fitting.{fits_new, fits_on}
use Rattle.wc_drill.proofs.Joined.{IsDone, chains_refused, comes_to, counts_broken, durable, live_unfailed, of_some, of_turns, run_done, run_refused}

module _ {D : Type 0} (g : disk.Ghosts D) (seed count : ℕ) (old : Store) (one two : D) (fresh : IsNew old) where
  bare : old.world.world ≡ empty
  bare = fresh.empty_yet

  made : IsOnDiskOne old
  made = (fresh.place, fresh.first.generation, fresh.first.version)

  abbrev pub Told : Type 0
  Told = IsTrue (g.tells one) × IsTrue (g.tells two)

  -- what a drill makes, within the limits
  abbrev pub Making : World → Journal → Type 0
  Making v journal = Drills seed count v × FitsIn usual_limits v journal

  -- a step that makes it
  abbrev pub Drilling : Bool → Store → D → D → Type 0
  Drilling whole s one_s two_s = Stepped g Making whole old one two s one_s two_s

  -- so do submissions
  some_made : (v : World) → SubmittedSome seed count old.world.world v → Drills seed count v
  some_made v some = of_some seed count v (subst (λ (x : World). SubmittedSome seed count x v) bare some)

  made_by : (v : World) (journal : Journal) → InGeneration old.journal (SubmitsSome seed count old) v journal → Making v journal
  made_by v journal h = (some_made v h.holds.0, fits_new old fresh v journal h.version h.holds.1)

  pub submitting : (whole : Bool) (s : Store) (one_s two_s : D) → Stepped g (SubmitsSome seed count old) whole old one two s one_s two_s
      → Drilling whole s one_s two_s
  submitting whole s one_s two_s step =
      weaker_step g (SubmitsSome seed count old) Making whole old s one two one_s two_s made_by step

  -- and turns, once all are submitted
  pub running : (whole : Bool) (mid : Store) (one_mid two_mid : D) (s : Store) (one_s two_s : D) → Submitted seed count old.world.world mid.world.world
      → Stepped g (SubmitsSome seed count old) true old one two mid one_mid two_mid
      → Stepped g (TakesSome (turns_of count) mid) whole mid one_mid two_mid s one_s two_s → Drilling whole s one_s two_s
  running whole mid one_mid two_mid s one_s two_s all first second =
      stepped_then g (SubmitsSome seed count old) (TakesSome (turns_of count) mid) Making
      whole old mid s one two one_mid two_mid one_s two_s made_by
      (λ v journal h. (
        of_turns seed count mid.world.world v (subst (λ (w : World). Submitted seed count w mid.world.world) bare all) h.holds.0,
        fits_new old fresh v journal (h.version ∙ first.comes.version) (fits_on old mid v journal h.version first.comes.holds.1 h.holds.1),
      )) first second

  -- ---- what comes of such a step

  module _ (whole : Bool) (s : Store) (one_s two_s : D) (step : Drilling whole s one_s two_s) where
    still_first : IsOnDiskOne s
    still_first = (step.place ∙ made.0, step.comes.generation ∙ made.1, step.comes.version ∙ made.2)

    pub drilled_moments : IsTrue (g.tells one) → IsTrue (g.tells two) → LeavesHeld g One (DrillsBy seed count) one two one_s two_s
    drilled_moments told told_too =
        subst (λ (p : Place). LeavesHeld g p (DrillsBy seed count) one two one_s two_s) made.0
        (weaker_leaves g old.place (InGeneration old.journal Making) (DrillsBy seed count) one two one_s two_s
        (λ v journal h. record {
          drills = h.holds.0;
          fits = h.holds.1;
          version = h.version ∙ fresh.first.version;
          generation = h.generation ∙ fresh.first.generation;
        }) (step.moments told told_too))

    pub drilled_tells : (g.tells one_s ≡ g.tells one) × (g.tells two_s ≡ g.tells two)
    drilled_tells = (step.call.tells_one, step.call.tells_two)

    held : s.live ≡ true → IsHeldAfter g Told old one_s two_s s.world.world s.journal
    held live = comes_to g Told old s one_s two_s made still_first step.images (λ t. step.call.stands (sym step.call.live ∙ live) t.0 t.1)

    stands_durable : whole ≡ true → IsTrue (g.tells one) → IsTrue (g.tells two) → AreDurable g one_s two_s
    stands_durable is told told_too = durable g s one_s two_s (step.call.stands is told told_too)

  -- ---- it broke off

  module _ (A : Type 0) (e : RunError) (d : DrillError) (told_as : d ≡ of_run e) (s : Store) (one_s two_s : D) (step : Drilling (is_live_after {T = A} (Err e)) s one_s two_s) where
    as_told : (Holds : DrillError → Type 0) → Holds (of_run e) → Holds d
    as_told Holds h = subst Holds (sym told_as) h

    pub broken_durable : IsUnfailed {T = ℕ} (Err d) → IsTrue (g.tells one) → IsTrue (g.tells two) → AreDurable g one_s two_s
    broken_durable whole =
        stands_durable (is_live_after {T = A} (Err e)) s one_s two_s step (live_unfailed A ℕ e (subst (λ (x : DrillError). IsUnfailed {T = ℕ} (Err x)) told_as whole))

    pub broken_counts : Counts {T = ℕ} (Err d) (g.faults one) (g.faults one_s) (g.faults two) (g.faults two_s) (g.failed one_s) (g.failed two_s)
    broken_counts =
        as_told (λ x. Counts {T = ℕ} (Err x) (g.faults one) (g.faults one_s) (g.faults two) (g.faults two_s) (g.failed one_s) (g.failed two_s))
        (counts_broken A ℕ e (g.faults one) (g.faults one_s) (g.faults two) (g.faults two_s) (g.failed one_s) (g.failed two_s) step.call.counts)

  -- in its submissions
  pub broken_refused : (e : RunError) (d : DrillError) → d ≡ of_run e → (s : Store) (one_s two_s : D)
      → Stepped g (SubmitsSome seed count old) (is_live_after {T = Unit {0}} (Err e)) old one two s one_s two_s
      → RefusesChains seed count old.world.world s e → RefusesDrilled (IsHeldAfter g Told old one_s two_s) seed count d
  broken_refused e d told_as s one_s two_s step refused =
      let whole = is_live_after {T = Unit {0}} (Err e) in
      subst (RefusesDrilled (IsHeldAfter g Told old one_s two_s) seed count) (sym told_as)
      (chains_refused seed count (IsHeldAfter g Told old one_s two_s) s (held whole s one_s two_s (submitting whole s one_s two_s step)) old.world.world bare
      step.comes.holds.0 e step.call.live refused)

  -- ---- all were submitted

  module _ (mid : Store) (one_mid two_mid : D) (all : Submitted seed count old.world.world mid.world.world)
      (first : Stepped g (SubmitsSome seed count old) true old one two mid one_mid two_mid) (whole : Bool) (s : Store) (one_s two_s : D)
      (then : Stepped g (TakesSome (turns_of count) mid) whole mid one_mid two_mid s one_s two_s) where
    submitted : Submitted seed count empty mid.world.world
    submitted = subst (λ (w : World). Submitted seed count w mid.world.world) bare all

    comes : s.live ≡ true → IsHeldAfter g Told old one_s two_s s.world.world s.journal
    comes = held whole s one_s two_s (running whole mid one_mid two_mid s one_s two_s all first then)

    -- the run broke off
    pub stopped_refused : (e : RunError) (d : DrillError) → d ≡ of_run e → s.live ≡ is_live_after {T = RunEnd} (Err e)
        → TakesFewer (turns_of count) mid.world.world s.world.world → RefusesRun outside s e → RefusesDrilled (IsHeldAfter g Told old one_s two_s) seed count d
    stopped_refused e d told_as live fewer refused =
        subst (RefusesDrilled (IsHeldAfter g Told old one_s two_s) seed count) (sym told_as)
        (run_refused seed count (IsHeldAfter g Told old one_s two_s) s comes mid.world.world submitted then.comes.holds.0 e live fewer refused)

    -- it ended every process
    pub ended_done : s.live ≡ true → (end : RunEnd) → EndsAll s.world.world end → (batches : ℕ) → batches ≡ s.world.world.batches
        → IsDone (IsHeldAfter g Told old one_s two_s) seed count batches
    ended_done live end ends batches is =
        run_done seed count (IsHeldAfter g Told old one_s two_s) s comes mid.world.world submitted then.comes.holds.0 live end ends batches is

  pub ended_durable : (s : Store) (one_s two_s : D) → Drilling true s one_s two_s → IsTrue (g.tells one) → IsTrue (g.tells two) → AreDurable g one_s two_s
  ended_durable s one_s two_s step = stands_durable true s one_s two_s step refl
