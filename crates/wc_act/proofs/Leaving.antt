-- What a call on a store leaves of its disks at each moment.
use Rattle.std.proofs.Common.{◌≡◌, ◌≤◌, inl, inr, ⊎_elim, ℕ, List, Result, refl, sym, subst, ◌∙◌, arith}
use Rattle.wc_disk.specs.declared.disk.Disk as disk
use Rattle.wc_disk.specs.Images.{LeavesOnly}
use Rattle.wc_disk.proofs.Runs.{no_call, both_runs, weaker_run}
use Rattle.wc_io.specs.declared.pacer.Pacer as pacer
use Rattle.wc_journal.specs.declared.journal.Journal.{Journal}
use Rattle.wc_state.specs.declared.record.Limits.{Limits}
use Rattle.wc_transport.specs.declared.transport.Transport as transport
use Rattle.wc_world.specs.World.{World, empty}
use Rattle.wc_world.specs.Applied.{applied}
use Rattle.wc_world.specs.declared.change.Change.{Change}
use Rattle.wc_world.specs.Accepted.{IsReached, nothing}
use Rattle.wc_machine.proofs.EmptyWorld.{empty_is_sound}
use Rattle.wc_store.specs.declared.error.StoreError.{StoreError}
use Rattle.wc_store.specs.declared.store.Store.{Store}
use Rattle.wc_store.specs.Choices.{Choice, chosen, on}
use Rattle.wc_store.specs.Held.{Standing, IsHeld, a_world}
use Rattle.wc_store.specs.declared.place.Place.{Place}
use Rattle.wc_store.specs.declared.place.Place.TheVariants.{One, Two}
use Rattle.wc_store.specs.Places.{its, number_of, opposite}
use Rattle.wc_store.specs.Stepped.{HoldsSome, InGeneration, IsCommitted, IsOrCommitted, LeavesHeld}
use Rattle.wc_store.specs.Stores.{other, StandsFor, ChoosesAs, HoldsAs, HoldsBy, HoldsPacked, IsFirst, IsLonger, IsNextOf, PackLeaves, InTwoParts, AreImages, BeginsFrom, InitLeaves}
use Rattle.wc_store.proofs.Parts.{As, then_none, then_own, then_pack, weaker_parts, OfInit, init_parts}
use Rattle.wc_store.specs.Laws.{HeldIsReached}
use Rattle.wc_drill.specs.Runner.Laws.{StaysSound, TurnsKeepSound, WorldsContinueThemselves}
use Rattle.wc_drill.specs.Runner.Leaves.{IsLedWithin}
use Rattle.wc_drill.specs.Runner.Outside.{in_run}
use Rattle.wc_drill.proofs.Runner.Continuing.{continues_itself}
use Rattle.wc_drill.proofs.Runner.Led.{led_is_taken}
use Rattle.wc_plan.specs.declared.deed.RunOptions.{RunOptions}
use Rattle.wc_act.specs.Crashes.{Keeps, HoldsKeeping, ComesOfNothing, Kept, WritesOne, LeavesPairs, LeavesKept}
use Rattle.wc_act.specs.Exchanges.{exchange}
use Rattle.wc_act.specs.Rows.{IsEmpty, MakesNothing, StaysMoving, TakesSome}
use Rattle.wc_act.specs.StoreDeeds.{GoesOn, HasJournal, Images}
use Rattle.wc_act.proofs.Moments.{at_moments}
use Rattle.wc_act.proofs.Visiting.{journal_of_images, seen_images}

pub keeps_itself : WorldsContinueThemselves → (w : World) → IsReached w → Keeps w w
keeps_itself law w reached sound = record { sound = sound; continues = law w reached; reached = reached }

-- ---- a store that is begun

-- the empty world is sound
pub empty_stays : StaysSound empty empty
empty_stays = record { sound = empty_is_sound; continues = continues_itself empty nothing; reached = nothing }

-- ---- what images hold

-- of images at the place and beside it, as those of disk one and disk two
held_pair : (place : Place) (a b : List ℕ) (s : Standing) → HoldsAs place (its place a b) (other place a b) s → IsHeld a b s
held_pair One a b s h = h
held_pair Two a b s h = h

pub chosen_pair : (place : Place) (a b : List ℕ) (c : Choice) → ChoosesAs place (its place a b) (other place a b) c → chosen a b ≡ c
chosen_pair One a b c h = h
chosen_pair Two a b c h = h

-- the other place's own image is the one beside
as_opposite : (place : Place) (a b : List ℕ) (v : World) (journal : Journal) → HoldsBy (opposite place) (other place a b) (its place a b) v journal
    → HoldsBy (opposite place) (its (opposite place) a b) (other (opposite place) a b) v journal
as_opposite One a b v journal h = h
as_opposite Two a b v journal h = h

-- a journal by which the images at the place and beside it hold a world
abbrev pub journal_pair : (place : Place) (a b : List ℕ) (v : World) (journal : Journal) → HoldsBy place (its place a b) (other place a b) v journal
    → HasJournal (a, b) journal
journal_pair place a b v journal h = record { place = place; batches = h.batches; chooses = chosen_pair place a b (on (number_of place) journal.version journal.generation h.batches) h.chooses; end = h.end }

-- the images hold a world, by a journal at the place, of which Q holds, and the other disk has the one of these that is its own
abbrev HoldsWorld : Place → (World → Journal → Type 0) → (one two a b : List ℕ) → Type 0
HoldsWorld place Q one two a b =
    (other place a b ≡ other place one two) × ((w : World) × (journal : Journal) × Q w journal × HoldsBy place (its place a b) (other place a b) w journal)

-- the first journal of a store
abbrev pub first_journal : Journal
first_journal = record { version = 2; generation = 1; end = 16; is_numbered = omega arith; is_some = omega arith; is_known = omega arith }

pub is_first : IsFirst first_journal
is_first = record { version = refl; generation = refl; end = refl }

-- a store is begun with the empty world, by its first journal
begins_empty : (one two a b : List ℕ) → BeginsFrom one two a b → ComesOfNothing IsEmpty one two a b
begins_empty one two a b begins = record {
  before = begins.before;
  some = (empty, first_journal, (refl, is_first));
  held = ⊎_elim (λ none. inl none)
      (λ held. inr (record {
        world = empty;
        held = held.2.held;
        journal = held.0;
        kept = journal_pair One a b empty held.0 held.2;
        place = refl;
        begun = (refl, held.1);
        sound = empty_stays;
      })) begins.held;
}

-- ---- what is left

module _ {D : Type 0} (g : disk.Ghosts D) (at_now : (d : D) (image : List ℕ) → g.left_since d (g.moment d) image → g.may_leave d image) where
  none_asked : (d : D) → LeavesOnly g d d (g.may_leave d)
  none_asked d = no_call g d (g.may_leave d) (at_now d)

  untouched : (d e : D) → e ≡ d → LeavesOnly g d e (g.may_leave d)
  untouched d e same = subst (λ (x : D). LeavesOnly g d x (g.may_leave d)) (sym same) (none_asked d)

  -- the image at the place
  seen_its : (place : Place) (one two : D) → g.seen (its place one two) ≡ its place (g.seen one) (g.seen two)
  seen_its One one two = refl
  seen_its Two one two = refl

  -- the disk at the place is written alone
  own_writes : (place : Place) (one two one_new two_new : D) → other place one_new two_new ≡ other place one two → WritesOne g one two one_new two_new
  own_writes One one two one_new two_new same = inr (untouched two two_new same)
  own_writes Two one two one_new two_new same = inl (untouched one one_new same)

  -- or the other disk
  other_writes : (place : Place) (one two one_new two_new : D) → its place one_new two_new ≡ its place one two → WritesOne g one two one_new two_new
  other_writes One one two one_new two_new same = inl (untouched one one_new same)
  other_writes Two one two one_new two_new same = inr (untouched two two_new same)

  -- ---- a store that stands for its disks

  module _ (reached_law : HeldIsReached) (same_law : WorldsContinueThemselves) (store : Store) (one two : D) (stands : StandsFor g store one two) where
    reached : IsReached store.world.world
    reached = reached_law (g.seen one) (g.seen two) store.world.world stands.held

    -- what the disks read as
    abbrev Seen : Images
    Seen = (g.seen one, g.seen two)

    abbrev journal_was : HasJournal Seen store.journal
    journal_was = journal_of_images store Seen (seen_images g store one two stands)

    -- of two parts, in which one disk is not written
    with_one : (makes : Images → World → World → Images → Type 0) (P : List ℕ → List ℕ → Type 0) (one_new two_new : D) → InTwoParts g one two one_new two_new P
        → ((a b : List ℕ) → P a b → HoldsKeeping makes Seen store.world.world a b) → WritesOne g one two one_new two_new
        → LeavesPairs g one two one_new two_new (HoldsKeeping makes Seen store.world.world)
    with_one makes P one_new two_new parts weaker one_writes = record {
      parts = weaker_parts g at_now one two one_new two_new P (HoldsKeeping makes Seen store.world.world) parts weaker;
      one_writes = one_writes;
    }

    -- the journal goes on where it is
    goes_nowhere : GoesOn Seen Seen store.journal store.journal
    goes_nowhere = record { was = journal_was; is = journal_was; place = refl; version = refl; generation = refl; rest = refl }

    -- no disk is asked
    pub standing : (makes : Images → World → World → Images → Type 0) → (GoesOn Seen Seen store.journal store.journal → makes Seen store.world.world store.world.world Seen)
        → LeavesPairs g one two one two (HoldsKeeping makes Seen store.world.world)
    standing makes itself =
        with_one makes (AreImages (g.seen one) (g.seen two)) one two
        (then_none g at_now one two one two (none_asked one) (none_asked two) (g.seen one) (g.seen two) refl refl stands.durable_one stands.durable_two)
        (λ a b are.
        subst (λ (x : List ℕ). HoldsKeeping makes Seen store.world.world a x) (sym are.1)
        (subst (λ (x : List ℕ). HoldsKeeping makes Seen store.world.world x (g.seen two)) (sym are.0)
        (store.world.world, stands.held, itself goes_nowhere, keeps_itself same_law store.world.world reached)))
        (inl (none_asked one))

    -- an image of the disk at the place, beside what the other one reads as
    beside : (place : Place) (Q : World → Journal → Type 0) (own : List ℕ) → HoldsSome place Q (g.seen (other place one two)) own
        → As place (HoldsWorld place Q (g.seen one) (g.seen two)) own (g.seen (other place one two))
    beside One Q own holds = (refl, holds)
    beside Two Q own holds = (refl, holds)

    -- a step: the store's disk alone is written, its journal goes on, and what P holds of is what the call may make, and keeps the world
    pub stepping : (P : World → Journal → Type 0) (makes : Images → World → World → Images → Type 0) (one_new two_new : D)
        → ((v : World) (journal : Journal) (images : Images) → GoesOn Seen images store.journal journal → P v journal
        → makes Seen store.world.world v images × Keeps store.world.world v)
        → LeavesHeld g store.place (InGeneration store.journal P) one two one_new two_new → LeavesPairs g one two one_new two_new (HoldsKeeping makes Seen store.world.world)
    stepping P makes one_new two_new made leaves =
        with_one makes (HoldsWorld store.place (InGeneration store.journal P) (g.seen one) (g.seen two)) one_new two_new
        (then_own g at_now one two one two (none_asked one) (none_asked two) stands.durable_one stands.durable_two one_new two_new
        (HoldsWorld store.place (InGeneration store.journal P) (g.seen one) (g.seen two)) store.place (HoldsSome store.place (InGeneration store.journal P) (g.seen (other store.place one two)))
        leaves.untouched leaves.each (λ image. beside store.place (InGeneration store.journal P) image))
        (λ a b held.
        let v : World = held.1.0 in
        let journal : Journal = held.1.1 in
        let by : HoldsBy store.place (its store.place a b) (other store.place a b) v journal = held.1.3 in
        let goes : GoesOn Seen (a, b) store.journal journal = record {
          was = journal_was;
          is = journal_pair store.place a b v journal by;
          place = refl;
          version = held.1.2.version;
          generation = held.1.2.generation;
          rest = held.0;
        } in
        let is = made v journal (a, b) goes held.1.2.holds in
        (v, held_pair store.place a b (a_world v) by.held, is.0, is.1))
        (own_writes store.place one two one_new two_new leaves.untouched)

    -- a commit
    pub committed : (makes : Images → World → World → Images → Type 0) (limits : Limits) (cs : List Change) (one_new two_new : D)
        → ((journal : Journal) (images : Images) → GoesOn Seen images store.journal journal → journal.end ≡ store.journal.end → makes Seen store.world.world store.world.world images)
        → ((journal : Journal) (images : Images) → GoesOn Seen images store.journal journal → IsLonger limits store.journal cs journal
        → makes Seen store.world.world (applied store.world.world cs) images)
        → Keeps store.world.world (applied store.world.world cs)
        → LeavesHeld g store.place (InGeneration store.journal (IsOrCommitted limits cs store)) one two one_new two_new
        → LeavesPairs g one two one_new two_new (HoldsKeeping makes Seen store.world.world)
    committed makes limits cs one_new two_new itself after keeps =
        stepping (IsOrCommitted limits cs store) makes one_new two_new
        (λ v journal images goes. ⊎_elim
        (λ same. subst (λ (x : World). makes Seen store.world.world x images × Keeps store.world.world x) (sym same.0)
        (itself journal images goes same.1, keeps_itself same_law store.world.world reached))
        (λ (c : IsCommitted limits cs store v journal). subst (λ (x : World). makes Seen store.world.world x images × Keeps store.world.world x) (sym c.world)
        (after journal images goes c.longer, keeps)))

    -- a pack: the world stays where it is
    packed_here : (a b : List ℕ) → its store.place a b ≡ its store.place (g.seen one) (g.seen two)
        → HoldsBy store.place (its store.place a b) (other store.place a b) store.world.world store.journal → HoldsKeeping StaysMoving Seen store.world.world a b
    packed_here a b still by = (
      store.world.world,
      held_pair store.place a b (a_world store.world.world) by.held,
      record {
        same = refl;
        journal = store.journal;
        next = store.journal;
        was = journal_was;
        is = journal_pair store.place a b store.world.world store.journal by;
        still = still;
        moved = inl (refl, refl);
      },
      keeps_itself same_law store.world.world reached,
    )

    -- or it has moved
    packed_there : (a b : List ℕ) → its store.place a b ≡ its store.place (g.seen one) (g.seen two) → (next : Journal) → IsNextOf store.journal store.world.world next
        → HoldsBy (opposite store.place) (its (opposite store.place) a b) (other (opposite store.place) a b) store.world.world next
        → HoldsKeeping StaysMoving Seen store.world.world a b
    packed_there a b still next is_next by = (
      store.world.world,
      held_pair (opposite store.place) a b (a_world store.world.world) by.held,
      record {
        same = refl;
        journal = store.journal;
        next = next;
        was = journal_was;
        is = journal_pair (opposite store.place) a b store.world.world next by;
        still = still;
        moved = inr (is_next, refl);
      },
      keeps_itself same_law store.world.world reached,
    )

    pub packed : (one_new two_new : D) → PackLeaves g store one two one_new two_new → LeavesPairs g one two one_new two_new (HoldsKeeping StaysMoving Seen store.world.world)
    packed one_new two_new leaves =
        with_one StaysMoving
        (λ a b. (its store.place a b ≡ g.seen (its store.place one two)) × HoldsPacked store (its store.place a b) (other store.place a b)) one_new two_new
        (then_pack g at_now one two one two (none_asked one) (none_asked two) stands.durable_one stands.durable_two store one_new two_new leaves)
        (λ a b p.
        let still = p.0 ∙ seen_its store.place one two in
        ⊎_elim (packed_here a b still) (λ m. packed_there a b still m.0 m.1 (as_opposite store.place a b store.world.world m.0 m.2)) p.1)
        (other_writes store.place one two one_new two_new leaves.untouched)

    -- a run
    pub taken : {T P : Type 0} (h : transport.Ghosts T) (k : pacer.Ghosts P) (o : RunOptions) (a b : T) (p q : P) → TurnsKeepSound (in_run h k o.limits a b q) → (one_new two_new : D)
        → LeavesHeld g store.place (InGeneration store.journal (IsLedWithin h k o.limits o.turns a p store.world.world store.journal b q)) one two one_new two_new
        → LeavesPairs g one two one_new two_new (HoldsKeeping (TakesSome o (exchange h k a b p q)) Seen store.world.world)
    taken h k o a b p q law one_new two_new =
        let w : World = store.world.world in
        stepping (IsLedWithin h k o.limits o.turns a p w store.journal b q) (TakesSome o (exchange h k a b p q)) one_new two_new
        (λ v journal images goes led.
        let t = (led_is_taken h k o.limits o.turns a p w store.journal b q v journal led).0 in
        (record { journal = store.journal; next = journal; goes = goes; led = led }, λ sound. law t.count t.rests w v reached sound t.turns))

  -- ---- whole calls

  module _ (counts : (d : D) (t : ℕ) (image : List ℕ) → t ≤ g.moment d → g.may_leave d image → g.left_since d t image) where
    -- a call that writes nothing
    pub unwritten : (begins : World → Journal → Type 0) (makes : Images → World → World → Images → Type 0) (one two one_new two_new : D) → LeavesOnly g one one_new (g.may_leave one)
        → LeavesOnly g two two_new (g.may_leave two) → LeavesKept g begins makes one two one_new two_new
    unwritten begins makes one two one_new two_new first second =
        inl (record {
          rest_only = first;
          own_only = weaker_run g two two_new (g.may_leave two) (λ b. (a : List ℕ) → g.may_leave one_new a → Kept g begins makes one two a b) second
              (λ b left a now. inl (first.each a (counts one_new (g.moment one) a first.later now), left));
        })

    -- a call that asks no disk
    pub unasked : (begins : World → Journal → Type 0) (makes : Images → World → World → Images → Type 0) (one two : D) → LeavesKept g begins makes one two one two
    unasked begins makes one two = unwritten begins makes one two one two (none_asked one) (none_asked two)

    -- a disk is read, and then not written
    read_on : (d d_mid d_new : D) → LeavesOnly g d d_mid (g.may_leave d) → LeavesOnly g d_mid d_new (g.may_leave d_mid) → LeavesOnly g d d_new (g.may_leave d)
    read_on d d_mid d_new first second =
        both_runs g d d_mid d_new (g.may_leave d) (g.may_leave d_mid) (g.may_leave d) first second (λ image h. h)
        (λ image h. first.each image (counts d_mid (g.moment d) image first.later h))

    -- the disks are read, and then there is a call in two parts
    after_reading : (P : List ℕ → List ℕ → Type 0) (one two one_mid two_mid one_new two_new : D) → LeavesOnly g one one_mid (g.may_leave one)
        → LeavesOnly g two two_mid (g.may_leave two) → InTwoParts g one_mid two_mid one_new two_new P → InTwoParts g one two one_new two_new P
    after_reading P one two one_mid two_mid one_new two_new first second parts = record {
      one_between = parts.one_between;
      two_between = parts.two_between;
      first_one = read_on one one_mid parts.one_between first parts.first_one;
      first_two = read_on two two_mid parts.two_between second parts.first_two;
      later_one = parts.later_one;
      later_two = parts.later_two;
      pairs = parts.pairs;
      since_one = parts.since_one;
      since_two = parts.since_two;
    }

    -- a call that reads a world, and then leaves worlds that keep it
    pub goes_on : (begins : World → Journal → Type 0) (makes : Images → World → World → Images → Type 0) (w : World) (one two one_mid two_mid one_new two_new : D) → IsHeld (g.seen one) (g.seen two) (a_world w)
        → g.seen one_mid ≡ g.seen one → g.seen two_mid ≡ g.seen two → LeavesOnly g one one_mid (g.may_leave one) → LeavesOnly g two two_mid (g.may_leave two)
        → LeavesPairs g one_mid two_mid one_new two_new (HoldsKeeping makes (g.seen one_mid, g.seen two_mid) w) → LeavesKept g begins makes one two one_new two_new
    goes_on begins makes w one two one_mid two_mid one_new two_new held same same_too first second leaves =
        let P : List ℕ → List ℕ → Type 0 = HoldsKeeping makes (g.seen one_mid, g.seen two_mid) w in
        at_moments g at_now counts one two one_new two_new (Kept g begins makes one two) (λ a b la lb. inl (la, lb))
        (record {
          parts = weaker_parts g at_now one two one_new two_new P (Kept g begins makes one two)
              (after_reading P one two one_mid two_mid one_new two_new first second leaves.parts)
              (λ a b keeps. inr (inr (w, held, subst (λ (before : Images). HoldsKeeping makes before w a b) (λ i. (same i, same_too i)) keeps)));
          one_writes = ⊎_elim (λ still. inl (read_on one one_mid one_new first still)) (λ still. inr (read_on two two_mid two_new second still)) leaves.one_writes;
        })

    -- `init`
    pub begun : (result : Result Store StoreError) (one two one_new two_new : D) → g.may_leave one (g.seen one) → g.may_leave two (g.seen two)
        → InitLeaves g result one two one_new two_new → LeavesOnly g two two_new (g.may_leave two) → LeavesKept g IsEmpty MakesNothing one two one_new two_new
    begun result one two one_new two_new reads reads_too leaves second =
        at_moments g at_now counts one two one_new two_new (Kept g IsEmpty MakesNothing one two) (λ a b la lb. inl (la, lb))
        (record {
          parts = weaker_parts g at_now one two one_new two_new (OfInit g at_now counts one two) (Kept g IsEmpty MakesNothing one two)
              (init_parts g at_now counts result one two one_new two_new leaves)
              (λ a b. ⊎_elim (λ was. inl was)
              (⊎_elim (λ are. inl (subst (g.may_leave one) (sym are.0) reads, subst (g.may_leave two) (sym are.1) reads_too))
              (λ begins. inr (inl (begins_empty (g.seen one) (g.seen two) a b begins)))));
          one_writes = inr second;
        })
