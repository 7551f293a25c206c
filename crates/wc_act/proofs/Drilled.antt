-- What a drill does, and what it leaves.
use Rattle.std.proofs.Common.{◌≡◌, ◌⊎◌, inl, inr, ⊎_elim, ◌≤◌, ℕ, Bool, List, Some, Result, Ok, Err, IfOk, IsTrue, refl, sym, ap, subst, ◌∙◌, arith}
use Rattle.std.specs.Prelude.{IfErr, IsErrOf}
use Rattle.wc_disk.specs.declared.disk.Disk as disk
use Rattle.wc_disk.specs.Images.{LeavesOnly}
use Rattle.wc_disk.proofs.Runs.{weaker_run}
use Rattle.wc_journal.specs.declared.journal.Journal.{Journal}
use Rattle.wc_world.specs.World.{World, empty}
use Rattle.wc_store.specs.Held.{IsHeld, HoldsAWorld, nothing, damage, a_world}
use Rattle.wc_store.specs.declared.place.Place.TheVariants.{One}
use Rattle.wc_store.specs.Sights.{OfImages}
use Rattle.wc_store.specs.Stepped.{HoldsSome}
use Rattle.wc_drill.specs.Runner.Leaves.{SomeTurns}
use Rattle.wc_drill.specs.Runner.Trips as trips
use Rattle.wc_drill.specs.Draws.{sum_of_squares}
use Rattle.wc_drill.specs.Texts.{drilled_text}
use Rattle.wc_drill.specs.Drilled as drilled
use Rattle.wc_drill.specs.Drilled.{Drills, DrillsBy, HasDrilled, outside, turns_of}
use Rattle.wc_drill.specs.Leaves.{DrilledBeside, IsBegun, IsFilled, IsOfDrill, RefusedLeaves, StaysDrilled, AreDurable as AreNow}
use Rattle.wc_drill.specs.Refusals.{RefusesDrill}
use Rattle.wc_drill.specs.Sound.{DrillsAreSound}
use Rattle.wc_drill.specs.declared.error.DrillError.{DrillError}
use Rattle.wc_drill.specs.declared.error.DrillError.TheVariants as error
use Rattle.wc_plan.specs.declared.deed.Begin.TheVariants as begin
use Rattle.wc_plan.specs.declared.deed.Deed.TheVariants as deed
use Rattle.wc_act.specs.declared.error.ActError.{ActError}
use Rattle.wc_act.specs.declared.error.ActError.TheVariants as act
use Rattle.wc_plan.specs.declared.reply.Reply.{Reply}
use Rattle.wc_plan.specs.declared.status.Cause.TheVariants as cause
use Rattle.wc_act.specs.Aborted.{StaysBegun}
use Rattle.wc_act.specs.Crashes.{AreDurable, ComesOfNothing, HoldsBegun, Kept, LeavesKept}
use Rattle.wc_act.specs.Drills.{HasEnded, FillsUp, broken_reply}
use Rattle.wc_act.specs.Owed.{visit, Done, OwedDeed}
use Rattle.wc_plan.specs.Replies.{refuses, prints}
use Rattle.wc_act.specs.Statuses.{IsDoneOrFull}
use Rattle.wc_act.specs.Rows.{MakesNothing, row}
use Rattle.wc_act.specs.StoreDeeds.{Images, is_damaged, is_full}
use Rattle.wc_act.specs.Undone.{EndsWith, IsBeforeTurns, LeavesUnwritten, ended_by}
use Rattle.wc_act.proofs.Broken.{fault_no_memory}
use Rattle.wc_act.proofs.Doing.{some_is}
use Rattle.wc_drill.proofs.Fitting.{empty_fits}
use Rattle.wc_act.proofs.Leaving.{first_journal, journal_pair}
use Rattle.wc_act.proofs.Unwriting.{images_again}
use Rattle.wc_act.proofs.Visiting.{are_read, visit_as}

error_is : (x y : ActError) → IsErrOf {T = Reply} (Err x) y → x ≡ y
error_is x y is = cc

-- ---- what is begun

none_taken : (most : ℕ) (w : World) → SomeTurns outside most w w
none_taken most w = (record { count = 0; rests = 0; few = omega arith; turns = trips.none w; batches = omega arith }, inl refl)

-- a drill begins with the empty world
none_submitted : (seed count : ℕ) → Drills seed count empty
none_submitted seed count = record {
  chains = 0;
  some = omega arith;
  begun = empty;
  submitted = drilled.none empty;
  takes = none_taken (turns_of count) empty;
  order = inl refl;
}

-- an image of disk one that holds what it has made, beside one of disk two
begun_by : DrillsAreSound → (seed count : ℕ) (a b : List ℕ) → HoldsSome One (DrillsBy seed count) b a → HoldsBegun (DrillsBy seed count) a b
begun_by law seed count a b d = record {
  world = d.0;
  held = d.3.held;
  journal = d.1;
  kept = journal_pair One a b d.0 d.1 d.3;
  place = refl;
  begun = d.2;
  sound = law seed count d.0 d.2.drills;
}

-- what it leaves of two images comes of nothing
comes_of_drill : DrillsAreSound → (seed count : ℕ) (one two a b : List ℕ) → IsOfDrill seed count one two a b → ComesOfNothing (DrillsBy seed count) one two a b
comes_of_drill law seed count one two a b h = record {
  before = h.before;
  some = (
    empty,
    first_journal,
    record { drills = none_submitted seed count; fits = empty_fits empty first_journal refl refl refl; version = refl; generation = refl },
  );
  held = ⊎_elim (λ none. inl none)
      (λ d. inr (begun_by law seed count a b d)) h.held;
}

-- ---- what is told

module _ {D : Type 0} (g : disk.Ghosts D) (seed count : ℕ) (one two one_new two_new : D) where
  abbrev Owes : Reply → Type 0
  Owes r = OwedDeed (visit g one two one_new two_new) (deed.Begin (begin.Drill seed count)) r

  -- it came to its end, or found the store full
  filled : (w : World) (journal : Journal) (r : Reply) → IsFilled g one two one_new two_new w journal → HasEnded seed count w r ⊎ FillsUp seed count w journal r → Owes r
  filled w journal r fills ends = record {
    before = (fills.first, fills.second);
    after = (fills.made, fills.second);
    told = λ told told_too.
        let was = fills.told told told_too in
        let is = fills.told_new told told_too in
        ((λ i. (was.0 i, was.1 i)), (λ i. (is.0 i, is.1 i)));
    are = (
      nothing,
      fills.bare,
      record {
        world = w;
        held = fills.holds.held;
        rest = refl;
        journal = journal;
        kept = record { place = One; batches = fills.holds.batches; chooses = fills.holds.chooses; end = fills.holds.end };
        place = refl;
        version = fills.holds.version;
        generation = fills.holds.generation;
        ends = ends;
      },
    );
  }

  pub has_drilled : (batches : ℕ) (r : Reply)
      → ((w : World) × HasDrilled seed count w × (batches ≡ w.batches) × ((journal : Journal) × IsFilled g one two one_new two_new w journal))
      → r ≡ prints (drilled_text count (sum_of_squares count seed) batches) → Owes r
  has_drilled batches r done reply =
      filled done.0 done.3.0 r done.3.1
      (inl (record { ends = done.1; reply = reply ∙ ap (λ (n : ℕ). prints (drilled_text count (sum_of_squares count seed) n)) done.2 }))

  -- or wasn't begun
  unbegun : (r : Reply) (P : List ℕ → List ℕ → Type 0) → OfImages g one two P
      → (IsTrue (g.tells one) → IsTrue (g.tells two) → (g.seen one_new ≡ g.seen one) × (g.seen two_new ≡ g.seen two))
      → ((before after : Images) → (after ≡ before) × P before.0 before.1 → Done (row (deed.Begin (begin.Drill seed count))) r before after) → Owes r
  unbegun r P images same done =
      visit_as (visit g one two one_new two_new) (λ before after. (after ≡ before) × P before.0 before.1) (Done (row (deed.Begin (begin.Drill seed count))) r) done
      (are_read g one two one_new two_new P images same)

  pub refused_drill : {E : Type 0} (e : DrillError) (result : Result Reply E) → RefusesDrill g seed count one two one_new two_new e
      → (IsTrue (g.tells one) → IsTrue (g.tells two) → g.seen two_new ≡ g.seen two)
      → (IsTrue (g.tells one) → IsTrue (g.tells two) → RefusedLeaves {T = ℕ} g seed count (Err e) one two one_new two_new)
      → IfOk result (λ r. broken_reply e ≡ Some r) → IfOk result Owes
  refused_drill e (Err x) refused seen_two leaves reply = reply
  refused_drill error.DiskFault (Ok r) refused seen_two leaves reply = absurd (cc)
  refused_drill (error.Damaged number at found) (Ok r) refused seen_two leaves reply =
      unbegun r (λ a b. IsHeld a b (damage number at found)) refused (λ told told_too. ((leaves told told_too).1, seen_two told told_too))
      (λ before after h. (damage number at found, h.1, (h.0, sym (some_is (is_damaged number at found) r reply))))
  refused_drill (error.Full what many limit) (Ok r) refused seen_two leaves reply =
      filled refused.world refused.journal r refused.holds
      (inr (record { drills = refused.drills; what = what; many = many; limit = limit; refused = refused.refused; reply = sym (some_is (is_full what many limit) r reply) }))
  refused_drill error.AlreadyThere (Ok r) refused seen_two leaves reply =
      unbegun r HoldsAWorld refused (λ told told_too. ((leaves told told_too).1, seen_two told told_too))
      (λ before after h. (a_world h.1.0, h.1.1, (h.0, sym (some_is (refuses cause.StoreExists) r reply))))
  refused_drill error.OutOfMemory (Ok r) refused seen_two leaves reply = absurd (cc)

  -- ---- what stands

  pub durable : AreNow g one_new two_new → AreDurable g one_new two_new
  durable now = record { durable_one = now.durable_one; durable_two = now.durable_two }

  -- a reply after which nothing is pending comes of a store that was made
  told_done : (e : DrillError) (r : Reply) → broken_reply e ≡ Some r → IsDoneOrFull r.status → IsBegun {T = ℕ} (Err e)
  told_done error.DiskFault r reply done = absurd (cc)
  told_done (error.Damaged disk at found) r reply done = subst (λ (x : Reply). IsDoneOrFull x.status) (some_is r (is_damaged disk at found) (sym reply)) done
  told_done (error.Full what many limit) r reply done = tt
  told_done error.AlreadyThere r reply done = subst (λ (x : Reply). IsDoneOrFull x.status) (some_is r (refuses cause.StoreExists) (sym reply)) done
  told_done error.OutOfMemory r reply done = absurd (cc)

  pub refused_durable : {E : Type 0} (e : DrillError) (result : Result Reply E)
      → (IsBegun {T = ℕ} (Err e) → IsTrue (g.tells one) → IsTrue (g.tells two) → StaysDrilled g seed count one_new two_new) → IfOk result (λ r. broken_reply e ≡ Some r)
      → IfOk result (λ r. IsDoneOrFull r.status → IsTrue (g.tells one) → IsTrue (g.tells two) → AreDurable g one_new two_new)
  refused_durable e (Err x) now reply = reply
  refused_durable e (Ok r) now reply = λ done told told_too. durable (now (told_done e r reply done) told told_too).durable

  -- what the drill has made is a store that it has begun
  stays_begun : DrillsAreSound → StaysDrilled g seed count one_new two_new → AreDurable g one_new two_new × HoldsBegun (DrillsBy seed count) (g.seen one_new) (g.seen two_new)
  stays_begun law stays = (durable stays.durable, begun_by law seed count (g.seen one_new) (g.seen two_new) stays.held)

  -- what is so of an error: nothing was written, or what was committed stays
  abbrev Breaks : ActError → Type 0
  Breaks x = IsTrue (g.tells one) → IsTrue (g.tells two) → LeavesUnwritten g one two one_new two_new ⊎ StaysBegun g (DrillsBy seed count) one_new two_new (ended_by x)

  -- memory ran out for the reply to a drill that came to its end
  pub untold_leaves : DrillsAreSound → (IsTrue (g.tells one) → IsTrue (g.tells two) → StaysDrilled g seed count one_new two_new) → (result : Result Reply ActError) → IfErr result Breaks
  untold_leaves law now (Ok r) = tt
  untold_leaves law now (Err x) = λ told told_too. inr (λ is. stays_begun law (now told told_too))

  -- ---- what is left

  module _ (counts : (d : D) (t : ℕ) (image : List ℕ) → t ≤ g.moment d → g.may_leave d image → g.left_since d t image) where
    -- disk two is not written
    pub drill_leaves : DrillsAreSound → LeavesOnly g one one_new (DrilledBeside g seed count one two two_new) → LeavesOnly g two two_new (g.may_leave two)
        → LeavesKept g (DrillsBy seed count) MakesNothing one two one_new two_new
    drill_leaves law first second =
        inr (record {
          rest_only = second;
          own_only = weaker_run g one one_new (DrilledBeside g seed count one two two_new) (λ a. (b : List ℕ) → g.may_leave two_new b → Kept g (DrillsBy seed count) MakesNothing one two a b) first
              (λ a left b now.
              ⊎_elim (λ was. inl (was, second.each b (counts two_new (g.moment two) b second.later now)))
              (λ beside. inr (inl (comes_of_drill law seed count (g.seen one) (g.seen two) a b (beside b now)))) left);
        })

    -- a drill that wasn't begun
    pub refused_unwritten : g.may_leave one (g.seen one) → g.may_leave two (g.seen two) → g.may_leave one_new (g.seen one_new) → g.may_leave two_new (g.seen two_new)
        → (e : DrillError) → RefusedLeaves {T = ℕ} g seed count (Err e) one two one_new two_new → g.seen two_new ≡ g.seen two → (result : Result Reply ActError)
        → IfOk result (λ r. broken_reply e ≡ Some r) → EndsWith IsBeforeTurns result → LeavesUnwritten g one two one_new two_new
    refused_unwritten reads reads_too reads_new reads_new_too e leaves seen_too (Err act.OutOfMemory) reply ends = absurd ends
    refused_unwritten reads reads_too reads_new reads_new_too e leaves seen_too (Err act.DiskFault) reply ends = absurd ends
    refused_unwritten reads reads_too reads_new reads_new_too error.DiskFault leaves seen_too (Ok r) reply ends = absurd (cc)
    refused_unwritten reads reads_too reads_new reads_new_too (error.Damaged disk at found) leaves seen_too (Ok r) reply ends = (leaves.0, leaves.1, seen_too)
    refused_unwritten reads reads_too reads_new reads_new_too (error.Full what many limit) leaves seen_too (Ok r) reply ends =
        absurd (subst (λ (x : Reply). IsBeforeTurns x.status) (some_is r (is_full what many limit) (sym reply)) ends)
    refused_unwritten reads reads_too reads_new reads_new_too error.AlreadyThere leaves seen_too (Ok r) reply ends =
        (images_again g counts one two one_new two_new reads reads_too reads_new reads_new_too leaves.0, leaves.1, seen_too)
    refused_unwritten reads reads_too reads_new reads_new_too error.OutOfMemory leaves seen_too (Ok r) reply ends = absurd (cc)

    -- it has no reply: nothing was written, or what the drill has made stays
    pub broken_leaves : DrillsAreSound → ((d : D) → IsTrue (g.tells d) → g.may_leave d (g.seen d)) → (g.tells one_new ≡ g.tells one) × (g.tells two_new ≡ g.tells two)
        → (e : DrillError) (result : Result Reply ActError)
        → (IsTrue (g.tells one) → IsTrue (g.tells two) → RefusedLeaves {T = ℕ} g seed count (Err e) one two one_new two_new)
        → (IsTrue (g.tells one) → IsTrue (g.tells two) → g.seen two_new ≡ g.seen two)
        → (IsBegun {T = ℕ} (Err e) → IsTrue (g.tells one) → IsTrue (g.tells two) → StaysDrilled g seed count one_new two_new)
        → (e ≡ error.DiskFault → result ≡ Err act.DiskFault) → IfErr result Breaks
    broken_leaves law reads tells e (Ok r) leaves seen_too now fault = tt
    broken_leaves law reads tells error.DiskFault (Err x) leaves seen_too now fault =
        λ told told_too. inr (λ is. absurd (fault_no_memory (sym (ap ended_by (error_is x act.DiskFault (fault refl))) ∙ is)))
    broken_leaves law reads tells (error.Damaged disk at found) (Err x) leaves seen_too now fault =
        λ told told_too. let l = leaves told told_too in inl (l.0, l.1, seen_too told told_too)
    broken_leaves law reads tells (error.Full what many limit) (Err x) leaves seen_too now fault =
        λ told told_too. inr (λ is. stays_begun law (now tt told told_too))
    broken_leaves law reads tells error.AlreadyThere (Err x) leaves seen_too now fault =
        λ told told_too.
        let l = leaves told told_too in
        let told_new = subst (λ (b : Bool). IsTrue b) (sym tells.0) told in
        let told_new_too = subst (λ (b : Bool). IsTrue b) (sym tells.1) told_too in
        inl (
          images_again g counts one two one_new two_new (reads one told) (reads two told_too) (reads one_new told_new) (reads two_new told_new_too) l.0,
          l.1,
          seen_too told told_too,
        )
    broken_leaves law reads tells error.OutOfMemory (Err x) leaves seen_too now fault =
        λ told told_too. ⊎_elim (λ none. inl (none.0, none.1, seen_too told told_too)) (λ stays. inr (λ is. stays_begun law stays)) (leaves told told_too)
