-- A store that is made, and what is left on the disks from then on.
use Rattle.std.proofs.Common.{◌≡◌, ◌⊎◌, inl, inr, ⊎_elim, ◌≤◌, ℕ, Bool, true, false, List, Result, Ok, Err, refl, sym, ap, subst, ◌∙◌, arith}
use Rattle.std.specs.Prelude.{IfErr, IsErrAnd, IsTrue}
use Rattle.std.proofs.lemmas.Bool.{false≢true}
use Rattle.wc_disk.specs.declared.disk.Disk as disk
use Rattle.wc_disk.specs.Images.{LeavesOnly}
use Rattle.wc_disk.specs.Steps.{Only}
use Rattle.wc_disk.proofs.Runs.{no_call, both_runs, weaker_run}
use Rattle.wc_journal.specs.declared.journal.Journal.{Journal}
use Rattle.wc_world.specs.World.{World, empty}
use Rattle.wc_store.specs.Stepped.{HoldsSome, LeavesHeld}
use Rattle.wc_store.specs.Held.{IsHeld, nothing, a_world}
use Rattle.wc_store.specs.Refusals.{RefusesInit}
use Rattle.wc_store.specs.Refusals.{Counts as CountsStore, IsUnchanged as IsUnchangedStore}
use Rattle.wc_store.specs.declared.store.Store.{Store}
use Rattle.wc_store.specs.Sights.{OfImages}
use Rattle.wc_store.specs.Stores.{AreImages, BeginsFrom, HoldsBy, InitLeaves, InOnePart, InTwoParts, IsMadeOf}
use Rattle.wc_store.specs.declared.error.StoreError.{StoreError}
use Rattle.wc_store.specs.declared.error.StoreError.TheVariants as store_error
use Rattle.wc_store.specs.declared.place.Place.TheVariants.{One}
use Rattle.wc_store.proofs.Opened.{of_seen}
use Rattle.wc_drill.specs.declared.error.DrillError.{DrillError}
use Rattle.wc_drill.specs.declared.error.DrillError.TheVariants as drill
use Rattle.wc_drill.specs.Drilled.{Drills, DrillsBy}
use Rattle.wc_drill.specs.Leaves.{AreDurable, IsHeldAfter, DrilledBeside, HoldsOnOne, IsBegun, IsFilled, IsOfDrill, IsUnfailed, RefusedLeaves, StaysDrilled}
use Rattle.wc_drill.specs.Refusals.{Counts, IsOfInit, RefusesDrill, RefusesDrilled, of_init}
use Rattle.wc_drill.proofs.Fitting.{empty_fits}
use Rattle.wc_drill.proofs.Joined.{of_some}
use Rattle.wc_drill.specs.Drilled as drilled

-- a drill of which nothing is done yet has made the empty world
begins : (seed count : ℕ) → Drills seed count empty
begins seed count = of_some seed count empty (0, omega arith, drilled.none empty)

of_beginning : (seed count : ℕ) (one two image rest : List ℕ) → BeginsFrom one two image rest → IsOfDrill seed count one two image rest
of_beginning seed count one two image rest b = record {
  before = b.before;
  held = ⊎_elim (λ none. inl none)
      (λ held. inr (
        empty,
        held.0,
        record {
          drills = begins seed count;
          fits = empty_fits empty held.0 refl held.1.end held.1.version;
          version = held.1.version;
          generation = held.1.generation;
        },
        held.2,
      )) b.held;
}

module _ {D : Type 0} (g : disk.Ghosts D) (at_now : (d : D) (image : List ℕ) → g.left_since d (g.moment d) image → g.may_leave d image)
    (counts : (d : D) (t : ℕ) (image : List ℕ) → t ≤ g.moment d → g.may_leave d image → g.left_since d t image)
    (reads : (d : D) → IsTrue (g.tells d) → g.may_leave d (g.seen d)) (seed count : ℕ) where
  -- of a call in two parts: an image of disk one from its first part, or one that is as P says beside each that disk two may leave in the end
  own_side : (one two one_new two_new : D) (P : List ℕ → List ℕ → Type 0) → InTwoParts g one two one_new two_new P
      → LeavesOnly g one one_new (λ a. g.may_leave one a ⊎ ((b : List ℕ) → g.may_leave two_new b → P a b))
  own_side one two one_new two_new P parts = record {
    later = omega (arith, parts.first_one.later, parts.later_one);
    each = λ a left. ⊎_elim
        (λ earlier. inl (parts.first_one.each a earlier))
        (λ f. inr (λ b now. f b (counts two_new (g.moment parts.two_between) b parts.later_two now)))
        (parts.since_one (g.moment one) a parts.first_one.later left);
    before = λ t a le left. ⊎_elim
        (λ earlier. ⊎_elim (λ old. inl old) (λ image. inr (inl image)) (parts.first_one.before t a le earlier))
        (λ f. inr (inr (λ b now. f b (counts two_new (g.moment parts.two_between) b parts.later_two now))))
        (parts.since_one t a (omega (arith, le, parts.first_one.later)) left);
  }

  -- no disk is called
  pub unasked : (one two : D) → LeavesOnly g one one (DrilledBeside g seed count one two two)
  unasked one two = no_call g one (DrilledBeside g seed count one two two) (λ image left. inl (at_now one image left))

  pub unasked_two : (two : D) → LeavesOnly g two two (g.may_leave two)
  unasked_two two = no_call g two (g.may_leave two) (at_now two)

  -- ---- a store isn't made

  one_part : (one two one_new two_new : D) → InOnePart g one two one_new two_new → LeavesOnly g one one_new (DrilledBeside g seed count one two two_new)
  one_part one two one_new two_new part =
      weaker_run g one one_new (g.may_leave one) (DrilledBeside g seed count one two two_new) part.only_one (λ a was. inl was)

  two_parts : (one two one_new two_new : D) → InTwoParts g one two one_new two_new (BeginsFrom (g.seen one) (g.seen two))
      → LeavesOnly g one one_new (DrilledBeside g seed count one two two_new)
  two_parts one two one_new two_new parts =
      weaker_run g one one_new (λ a. g.may_leave one a ⊎ ((b : List ℕ) → g.may_leave two_new b → BeginsFrom (g.seen one) (g.seen two) a b))
      (DrilledBeside g seed count one two two_new) (own_side one two one_new two_new (BeginsFrom (g.seen one) (g.seen two)) parts)
      (λ a. ⊎_elim (λ was. inl was) (λ f. inr (λ b now. of_beginning seed count (g.seen one) (g.seen two) a b (f b now))))

  there : (one two one_new two_new : D) → IsTrue (g.tells one) → IsTrue (g.tells two_new) → InTwoParts g one two one_new two_new (AreImages (g.seen one) (g.seen two))
      → LeavesOnly g one one_new (DrilledBeside g seed count one two two_new)
  there one two one_new two_new told told_too parts =
      weaker_run g one one_new (λ a. g.may_leave one a ⊎ ((b : List ℕ) → g.may_leave two_new b → AreImages (g.seen one) (g.seen two) a b))
      (DrilledBeside g seed count one two two_new) (own_side one two one_new two_new (AreImages (g.seen one) (g.seen two)) parts)
      (λ a. ⊎_elim (λ was. inl was)
      (λ f. inl (subst (g.may_leave one) (sym (f (g.seen two_new) (reads two_new told_too)).0) (reads one told))))

  -- whatever `init` refuses
  pub unmade : (e : StoreError) (one two one_new two_new : D) → IsTrue (g.tells one) → IsTrue (g.tells two_new) → InitLeaves g (Err e) one two one_new two_new
      → LeavesOnly g one one_new (DrilledBeside g seed count one two two_new)
  unmade store_error.DiskFault one two one_new two_new told told_too (inl part) = one_part one two one_new two_new part
  unmade store_error.DiskFault one two one_new two_new told told_too (inr parts) = two_parts one two one_new two_new parts
  unmade (store_error.Damaged disk at found) one two one_new two_new told told_too part = one_part one two one_new two_new part
  unmade (store_error.Full what most limit) one two one_new two_new told told_too part = one_part one two one_new two_new part
  unmade store_error.AlreadyThere one two one_new two_new told told_too parts = there one two one_new two_new told told_too parts
  unmade store_error.OutOfMemory one two one_new two_new told told_too part = one_part one two one_new two_new part

  -- ---- a store is made, and drilled

  module _ (one two one_mid two_mid one_new two_new : D) (parts : InTwoParts g one two one_mid two_mid (BeginsFrom (g.seen one) (g.seen two)))
      (before : IsHeld (g.seen one) (g.seen two) nothing) (durable : Only (g.seen two_mid) (g.may_leave two_mid))
      (leaves : LeavesHeld g One (DrillsBy seed count) one_mid two_mid one_new two_new) where
    -- an image that disk two may leave in the end is what it reads as
    rest_is : (b : List ℕ) → g.may_leave two_new b → b ≡ g.seen two_mid
    rest_is b now = durable b (subst (λ (d : D). g.may_leave d b) leaves.untouched now)

    pub made : LeavesOnly g one one_new (DrilledBeside g seed count one two two_new)
    made = both_runs g one one_mid one_new (DrilledBeside g seed count one two two_mid) (HoldsSome One (DrillsBy seed count) (g.seen two_mid))
        (DrilledBeside g seed count one two two_new) (two_parts one two one_mid two_mid parts) leaves.each
        (λ a. ⊎_elim (λ was. inl was) (λ f. inr (λ b now. f b (subst (λ (d : D). g.may_leave d b) leaves.untouched now))))
        (λ a h. inr (λ b now. record {
          before = before;
          held = inr (h.0, h.1, h.2, subst (λ (rest : List ℕ). HoldsBy One a rest h.0 h.1) (sym (rest_is b now)) h.3);
        }))

-- a store was made where the disks read as images that hold nothing
pub held_nothing : {D : Type 0} (g : disk.Ghosts D) (one two : D) (store : Store) → OfImages g one two (IsMadeOf store) → IsTrue (g.tells one) → IsTrue (g.tells two)
    → IsHeld (g.seen one) (g.seen two) nothing
held_nothing g one two store images told told_too = (of_seen g one two (IsMadeOf store) images told told_too).0

-- what the drill leaves in the end is what the disks read as, where nothing is pending
pub stays : {D : Type 0} (g : disk.Ghosts D) (seed count : ℕ) (one_mid two_mid one_new two_new : D)
    → ((d : D) (t : ℕ) (image : List ℕ) → t ≤ g.moment d → g.may_leave d image → g.left_since d t image) → g.may_leave one_new (g.seen one_new)
    → LeavesHeld g One (DrillsBy seed count) one_mid two_mid one_new two_new → AreDurable g one_new two_new → StaysDrilled g seed count one_new two_new
stays g seed count one_mid two_mid one_new two_new counts reads leaves durable = record {
  durable = durable;
  held = subst (λ (rest : List ℕ). HoldsSome One (DrillsBy seed count) rest (g.seen one_new)) (ap g.seen (sym leaves.untouched))
      (leaves.each.each (g.seen one_new) (counts one_new (g.moment one_mid) (g.seen one_new) leaves.each.later reads));
}

-- ---- refusals

-- why no store is made
pub of_init_alone : {D : Type 0} (g : disk.Ghosts D) (one two : D) (e : StoreError) → RefusesInit g one two e → IsOfInit e
of_init_alone g one two store_error.DiskFault h = tt
of_init_alone g one two (store_error.Damaged disk at found) h = tt
of_init_alone g one two (store_error.Full what most limit) h = h
of_init_alone g one two store_error.AlreadyThere h = tt
of_init_alone g one two store_error.OutOfMemory h = tt

-- then none was begun
pub not_begun : (A : Type 0) (e : StoreError) → IsBegun {T = A} (Err (of_init e)) → ⊥
not_begun A store_error.DiskFault h = h
not_begun A (store_error.Damaged disk at found) h = h
not_begun A (store_error.Full what most limit) h = h
not_begun A store_error.AlreadyThere h = h
not_begun A store_error.OutOfMemory h = h

pub counts_unmade : (A B : Type 0) (e : StoreError) (one one_new two two_new : ℕ) (failed_one failed_two : Type 0)
    → CountsStore {T = A} (Err e) one one_new two two_new failed_one failed_two → Counts {T = B} (Err (of_init e)) one one_new two two_new failed_one failed_two
counts_unmade A B store_error.DiskFault one one_new two two_new failed_one failed_two h = h
counts_unmade A B (store_error.Damaged disk at found) one one_new two two_new failed_one failed_two h = h
counts_unmade A B (store_error.Full what most limit) one one_new two two_new failed_one failed_two h = h
counts_unmade A B store_error.AlreadyThere one one_new two two_new failed_one failed_two h = h
counts_unmade A B store_error.OutOfMemory one one_new two two_new failed_one failed_two h = h

-- counts since the beginning, where no disk failed up to a call
pub counts_since : {A : Type 0} (result : Result A DrillError) (one one_mid one_new two two_mid two_new : ℕ) (failed_one failed_two : Type 0)
    → (one_mid ≡ one) × (two_mid ≡ two) → Counts result one_mid one_new two_mid two_new failed_one failed_two → Counts result one one_new two two_new failed_one failed_two
counts_since result one one_mid one_new two two_mid two_new failed_one failed_two same h =
    subst (λ (m : ℕ). Counts result one one_new m two_new failed_one failed_two) same.1
    (subst (λ (m : ℕ). Counts result m one_new two_mid two_new failed_one failed_two) same.0 h)

-- ---- what a drill comes to

-- what is so of this image where both disks tell, and of some image in any case, is so of one image, which is this one where both tell
of_told : (a b : Bool) (image : List ℕ) (P : List ℕ → Type 0) → (IsTrue a → IsTrue b → P image) → ((made : List ℕ) × P made)
    → (made : List ℕ) × (IsTrue a → IsTrue b → made ≡ image) × P made
of_told true true image P told some = (image, (λ is is_too. refl), told refl refl)
of_told true false image P told some = (some.0, (λ is is_too. absurd (false≢true is_too)), some.1)
of_told false b image P told some = (some.0, (λ is is_too. absurd (false≢true is)), some.1)

-- where two disks tell, they tell after a call that leaves it so
pub told_mid : {D : Type 0} (g : disk.Ghosts D) (one two one_mid two_mid : D) → (g.tells one_mid ≡ g.tells one) × (g.tells two_mid ≡ g.tells two)
    → IsTrue (g.tells one) → IsTrue (g.tells two) → IsTrue (g.tells one_mid) × IsTrue (g.tells two_mid)
told_mid g one two one_mid two_mid tells told told_too =
    (subst (λ (b : Bool). IsTrue b) (sym tells.0) told, subst (λ (b : Bool). IsTrue b) (sym tells.1) told_too)

-- a store is made, and drilled
module _ {D : Type 0} (g : disk.Ghosts D) (seed count : ℕ) (one two one_mid two_mid one_new two_new : D)
    (tells : (g.tells one_mid ≡ g.tells one) × (g.tells two_mid ≡ g.tells two)) (same : g.seen two_mid ≡ g.seen two)
    (leaves : IsTrue (g.tells one_mid) → IsTrue (g.tells two_mid) → LeavesHeld g One (DrillsBy seed count) one_mid two_mid one_new two_new) where
  untouched : IsTrue (g.tells one) → IsTrue (g.tells two) → two_new ≡ two_mid
  untouched told told_too = let t = told_mid g one two one_mid two_mid tells told told_too in (leaves t.0 t.1).untouched

  pub seen_still : IsTrue (g.tells one) → IsTrue (g.tells two) → g.seen two_new ≡ g.seen two
  seen_still told told_too = ap g.seen (untouched told told_too) ∙ same

  pub made_two : LeavesOnly g two two_mid (g.may_leave two) → IsTrue (g.tells one) → IsTrue (g.tells two) → LeavesOnly g two two_new (g.may_leave two)
  made_two first told told_too = subst (λ (d : D). LeavesOnly g two d (g.may_leave two)) (sym (untouched told told_too)) first

  pub filled : (store : Store) → OfImages g one two (IsMadeOf store) → (w : World) (journal : Journal)
      → IsHeldAfter g (IsTrue (g.tells one_mid) × IsTrue (g.tells two_mid)) store one_new two_new w journal → IsFilled g one two one_new two_new w journal
  filled store o w journal comes =
      let made = of_told (g.tells one) (g.tells two) (g.seen one_new) (λ (image : List ℕ). HoldsOnOne image o.second w journal)
      (λ told told_too. subst (λ (rest : List ℕ). HoldsOnOne (g.seen one_new) rest w journal) (seen_still told told_too ∙ sym (o.told_two told_too))
      (comes.seen (told_mid g one two one_mid two_mid tells told told_too)))
      (comes.beside o.are.1.0 o.second o.are.1.1) in
      record {
        first = o.first;
        second = o.second;
        made = made.0;
        told = λ told told_too. (o.told_one told, o.told_two told_too);
        told_new = λ told told_too. (made.1 told told_too, o.told_two told_too ∙ sym (seen_still told told_too));
        bare = o.are.0;
        holds = made.2;
      }

module _ {D : Type 0} (g : disk.Ghosts D) (seed count : ℕ) (one two one_new two_new : D) where
  pub init_refused : (e : StoreError) → RefusesInit g one two e → RefusesDrill g seed count one two one_new two_new (of_init e)
  init_refused store_error.DiskFault h = tt
  init_refused (store_error.Damaged disk at found) h = h
  init_refused (store_error.Full what most limit) h = tt
  init_refused store_error.AlreadyThere h = h
  init_refused store_error.OutOfMemory h = tt

  pub init_unbegun : (A : Type 0) (e : StoreError) → InitLeaves g (Err e) one two one_new two_new
      → IsUnchangedStore {T = Store} (Err e) (g.seen one) (g.seen one_new) → RefusedLeaves {T = A} g seed count (Err (of_init e)) one two one_new two_new
  init_unbegun A store_error.DiskFault leaves same = tt
  init_unbegun A (store_error.Damaged disk at found) leaves same = (leaves, same)
  init_unbegun A (store_error.Full what most limit) leaves same = inl (leaves, same)
  init_unbegun A store_error.AlreadyThere leaves same = (leaves, same)
  init_unbegun A store_error.OutOfMemory leaves same = inl (leaves, same)

  -- however a world is held that the images hold too
  module _ (Holds : World → Journal → Type 0) where
    pub drilled_refused : ((w : World) (journal : Journal) → Holds w journal → IsFilled g one two one_new two_new w journal) → (e : DrillError)
        → RefusesDrilled Holds seed count e → RefusesDrill g seed count one two one_new two_new e
    drilled_refused fills drill.DiskFault h = tt
    drilled_refused fills (drill.Damaged disk at found) h = absurd h
    drilled_refused fills (drill.Full what most limit) h =
        record { world = h.world; drills = h.drills; journal = h.journal; holds = fills h.world h.journal h.holds; refused = h.refused }
    drilled_refused fills drill.AlreadyThere h = absurd h
    drilled_refused fills drill.OutOfMemory h = tt

    pub drilled_unbegun : {A : Type 0} (result : Result A DrillError) → IfErr result (RefusesDrilled Holds seed count) → (IsUnfailed result → StaysDrilled g seed count one_new two_new)
        → RefusedLeaves g seed count result one two one_new two_new
    drilled_unbegun (Ok a) h durable = tt
    drilled_unbegun (Err drill.DiskFault) h durable = tt
    drilled_unbegun (Err (drill.Damaged disk at found)) h durable = absurd h
    drilled_unbegun (Err (drill.Full what most limit)) h durable = tt
    drilled_unbegun (Err drill.AlreadyThere) h durable = absurd h
    drilled_unbegun (Err drill.OutOfMemory) h durable = inr (durable tt)

-- where a store was made and nothing failed, no disk failed
pub begun_unfailed : {A : Type 0} (result : Result A DrillError) → IsBegun result → IsUnfailed result
begun_unfailed (Ok a) begun = tt
begun_unfailed (Err drill.DiskFault) begun = absurd begun
begun_unfailed (Err (drill.Damaged disk at found)) begun = tt
begun_unfailed (Err (drill.Full what most limit)) begun = tt
begun_unfailed (Err drill.AlreadyThere) begun = tt
begun_unfailed (Err drill.OutOfMemory) begun = tt

-- memory ran out before any disk was called
pub lost_unbegun : {D A : Type 0} (g : disk.Ghosts D) → ((d : D) (image : List ℕ) → g.left_since d (g.moment d) image → g.may_leave d image)
    → (seed count : ℕ) (one two : D) (result : Result A DrillError) → IsErrAnd result (λ e. e ≡ drill.OutOfMemory) → RefusedLeaves g seed count result one two one two
lost_unbegun g at_now seed count one two (Ok a) is = absurd is
lost_unbegun {D} {A} g at_now seed count one two (Err e) is =
    subst (λ (x : DrillError). RefusedLeaves {T = A} g seed count (Err x) one two one two) (sym is)
    (inl (record { only_one = no_call g one (g.may_leave one) (at_now one); only_two = no_call g two (g.may_leave two) (at_now two) }, refl))
