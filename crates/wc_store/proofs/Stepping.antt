-- Steps of a store: one that does nothing, and two that make one.
use Rattle.std.proofs.Common.{◌≡◌, ◌≤◌, inl, inr, ℕ, Bool, true, List, length, refl, sym, ap, subst, ◌∙◌}
use Rattle.std.specs.Prelude.{IsTrue}
use Rattle.wc_disk.specs.declared.disk.Disk as disk
use Rattle.wc_disk.specs.Steps.{Only}
use Rattle.wc_disk.proofs.Runs.{no_call, both_runs, weaker_run}
use Rattle.wc_journal.specs.declared.journal.Journal.{Journal}
use Rattle.wc_journal.specs.Reading.{batches_of, journal_of}
use Rattle.wc_state.specs.declared.record.Limits.{Limits}
use Rattle.wc_world.specs.declared.change.Change.{Change}
use Rattle.wc_world.specs.World.{World}
use Rattle.wc_world.specs.Applied.{applied}
use Rattle.wc_store.specs.declared.place.Place.{Place}
use Rattle.wc_store.specs.declared.place.Place.TheVariants.{One, Two}
use Rattle.wc_store.specs.declared.store.Store.{Store}
use Rattle.wc_store.specs.Choices.{Choice, chosen}
use Rattle.wc_store.specs.Places.{its}
use Rattle.wc_store.specs.Held.{Standing, a_world, IsHeld}
use Rattle.wc_store.specs.Stepped.{Called, CountsFaults, HoldsSome, InGeneration, IsOrCommitted, LeavesHeld, LeavesNow, Stepped}
use Rattle.wc_store.specs.Stores.{other, ChoosesAs, CommitLeaves, HoldsAs, HoldsBy, HoldsEither, StandsFor}
use Rattle.wc_store.proofs.Led.{leads_on, leads_same}

-- ---- what is counted

counts_since : (whole : Bool) (one one' one_new two two' two_new : ℕ) (failed_one failed_two : Type 0) → (one' ≡ one) × (two' ≡ two)
    → CountsFaults whole one' one_new two' two_new failed_one failed_two → CountsFaults whole one one_new two two_new failed_one failed_two
counts_since whole one one' one_new two two' two_new failed_one failed_two same h =
    subst (λ (m : ℕ). CountsFaults whole one one_new m two_new failed_one failed_two) same.1
    (subst (λ (m : ℕ). CountsFaults whole m one_new two' two_new failed_one failed_two) same.0 h)

module _ {D : Type 0} (g : disk.Ghosts D) where
  -- ---- what images hold

  held_as : (place : Place) (one two : D) (s : Standing) → IsHeld (g.seen one) (g.seen two) s → HoldsAs place (g.seen (its place one two)) (g.seen (other place one two)) s
  held_as One one two s h = h
  held_as Two one two s h = h

  chosen_as : (place : Place) (one two : D) (c : Choice) → chosen (g.seen one) (g.seen two) ≡ c → ChoosesAs place (g.seen (its place one two)) (g.seen (other place one two)) c
  chosen_as One one two c h = h
  chosen_as Two one two c h = h

  own_durable : (place : Place) (one two : D) → Only (g.seen one) (g.may_leave one) → Only (g.seen two) (g.may_leave two)
      → Only (g.seen (its place one two)) (g.may_leave (its place one two))
  own_durable One one two first second = first
  own_durable Two one two first second = second

  -- an image that a crash now may leave holds the store's world by its journal
  held_now : (store : Store) (one two : D) → StandsFor g store one two → (image : List ℕ) → g.may_leave (its store.place one two) image
      → HoldsBy store.place image (g.seen (other store.place one two)) store.world.world store.journal
  held_now store one two stands image left =
      let own : D = its store.place one two in
      let rest : List ℕ = g.seen (other store.place one two) in
      let only : Only (g.seen own) (g.may_leave own) = own_durable store.place one two stands.durable_one stands.durable_two in
      let here : HoldsBy store.place (g.seen own) rest store.world.world store.journal = record {
        held = held_as store.place one two (a_world store.world.world) stands.held;
        batches = batches_of (journal_of (g.seen own));
        chooses = chosen_as store.place one two _ stands.chooses;
        end = stands.settled.stands.end;
      } in
      subst (λ (i : List ℕ). HoldsBy store.place i rest store.world.world store.journal) (sym (only image left)) here

  -- where no disk is called, its images hold the store's world by its journal
  pub stands_leaves : (store : Store) (P : World → Journal → Type 0) (one two : D) → ((d : D) (image : List ℕ) → g.left_since d (g.moment d) image → g.may_leave d image)
      → StandsFor g store one two → P store.world.world store.journal → LeavesHeld g store.place P one two one two
  stands_leaves store P one two only_now stands here = record {
    untouched = refl;
    each = no_call g (its store.place one two) (HoldsSome store.place P (g.seen (other store.place one two)))
        (λ image left. (store.world.world, store.journal, here, held_now store one two stands image (only_now (its store.place one two) image left)));
  }

  -- and so do those that a crash now may leave
  pub stands_now : (store : Store) (P : World → Journal → Type 0) (one two : D) → StandsFor g store one two → P store.world.world store.journal
      → LeavesNow g store.place P one two
  stands_now store P one two stands here = λ image left. (store.world.world, store.journal, here, held_now store one two stands image left)

  -- what is left at each moment is left now
  pub leaves_now : (place : Place) (P : World → Journal → Type 0) (one two one_new two_new : D) → ((d : D) (t : ℕ) (image : List ℕ) → t ≤ g.moment d → g.may_leave d image → g.left_since d t image)
      → LeavesHeld g place P one two one_new two_new → LeavesNow g place P one_new two_new
  leaves_now place P one two one_new two_new counts leaves = λ image left.
      subst (λ (rest : List ℕ). HoldsSome place P rest image) (sym (ap g.seen leaves.untouched))
      (leaves.each.each image (counts (its place one_new two_new) (g.moment (its place one two)) image leaves.each.later left))

  -- what has P has R
  pub weaker_leaves : (place : Place) (P R : World → Journal → Type 0) (one two one_new two_new : D) → ((v : World) (journal : Journal) → P v journal → R v journal)
      → LeavesHeld g place P one two one_new two_new → LeavesHeld g place R one two one_new two_new
  weaker_leaves place P R one two one_new two_new weaker leaves = record {
    untouched = leaves.untouched;
    each = weaker_run g (its place one two) (its place one_new two_new) _ _ leaves.each (λ image h. (h.0, h.1, weaker h.0 h.1 h.2, h.3));
  }

  -- a commit leaves the world before, or the one after within the limit of nodes
  pub commit_held : (store : Store) (limits : Limits) (cs : List Change) (one two one_new two_new : D) → length (applied store.world.world cs).nodes ≤ limits.max_nodes
      → CommitLeaves g store limits cs one two one_new two_new → LeavesHeld g store.place (InGeneration store.journal (IsOrCommitted limits cs store)) one two one_new two_new
  commit_held store limits cs one two one_new two_new nodes leaves = record {
    untouched = leaves.untouched;
    each = weaker_run g (its store.place one two) (its store.place one_new two_new) _ _ leaves.each either;
  }
    where
      either : (image : List ℕ) → HoldsEither store limits cs (g.seen (other store.place one two)) image
          → HoldsSome store.place (InGeneration store.journal (IsOrCommitted limits cs store)) (g.seen (other store.place one two)) image
      either image (inl same) = (store.world.world, store.journal, record { holds = inl (refl, refl); version = refl; generation = refl }, same)
      either image (inr more) = (
        applied store.world.world cs,
        more.0,
        record { holds = inr (record { world = refl; nodes = nodes; longer = more.1 }); version = more.1.version; generation = more.1.generation },
        more.2,
      )

  -- one run after another, where the second began at a world which the first may have left
  pub leaves_on : (place : Place) (P Q R : World → Journal → Type 0) (one two one_mid two_mid one_new two_new : D) → ((v : World) (journal : Journal) → P v journal → R v journal)
      → ((v : World) (journal : Journal) → Q v journal → R v journal) → LeavesHeld g place P one two one_mid two_mid → LeavesHeld g place Q one_mid two_mid one_new two_new
      → LeavesHeld g place R one two one_new two_new
  leaves_on place P Q R one two one_mid two_mid one_new two_new from_first from_second first second =
      let beside : g.seen (other place one_mid two_mid) ≡ g.seen (other place one two) = ap g.seen first.untouched in
      record {
        untouched = second.untouched ∙ first.untouched;
        each = both_runs g (its place one two) (its place one_mid two_mid) (its place one_new two_new) _ _
            (HoldsSome place R (g.seen (other place one two))) first.each second.each (λ image h. (h.0, h.1, from_first h.0 h.1 h.2, h.3))
            (λ image h. (h.0, h.1, from_second h.0 h.1 h.2, subst (λ (rest : List ℕ). HoldsBy place image rest h.0 h.1) beside h.3));
      }

  -- ---- steps

  -- nothing was done
  pub not_called : (store : Store) (one two : D) → store.live ≡ true → (IsTrue (g.tells one) → IsTrue (g.tells two) → StandsFor g store one two)
      → Called g true one two store one two
  not_called store one two live stands =
      record { live = live; stands = λ whole. stands; tells_one = refl; tells_two = refl; counts = (refl, refl) }

  pub not_stepped : (P : World → Journal → Type 0) (store : Store) (one two : D)
      → ((d : D) (image : List ℕ) → g.left_since d (g.moment d) image → g.may_leave d image) → store.live ≡ true
      → (IsTrue (g.tells one) → IsTrue (g.tells two) → StandsFor g store one two) → P store.world.world store.journal
      → Stepped g P true store one two store one two
  not_stepped P store one two only_now live stands here =
      let is : InGeneration store.journal P store.world.world store.journal = record { holds = here; version = refl; generation = refl } in
      record {
        call = not_called store one two live stands;
        place = refl;
        comes = is;
        images = leads_same store;
        moments = λ told told_too. stands_leaves store (InGeneration store.journal P) one two only_now (stands told told_too) is;
      }

  -- P is R
  pub weaker_step : (P R : World → Journal → Type 0) (whole : Bool) (old new : Store) (one two one_new two_new : D)
      → ((v : World) (journal : Journal) → InGeneration old.journal P v journal → R v journal) → Stepped g P whole old one two new one_new two_new
      → Stepped g R whole old one two new one_new two_new
  weaker_step P R whole old new one two one_new two_new weaker s =
      let on : (v : World) (journal : Journal) → InGeneration old.journal P v journal → InGeneration old.journal R v journal
      = λ v journal h. record { holds = weaker v journal h; version = h.version; generation = h.generation } in
      record {
        call = s.call;
        place = s.place;
        comes = on new.world.world new.journal s.comes;
        images = s.images;
        moments = λ told told_too.
            weaker_leaves old.place (InGeneration old.journal P) (InGeneration old.journal R) one two one_new two_new on (s.moments told told_too);
      }

  module _ (P Q R : World → Journal → Type 0) (whole : Bool) (old mid new : Store) (one two one_mid two_mid one_new two_new : D)
      (from_first : (v : World) (journal : Journal) → InGeneration old.journal P v journal → R v journal)
      (from_second : (v : World) (journal : Journal) → InGeneration mid.journal Q v journal → R v journal)
      (first : Stepped g P true old one two mid one_mid two_mid) (second : Stepped g Q whole mid one_mid two_mid new one_new two_new) where
    told_one : IsTrue (g.tells one) → IsTrue (g.tells one_mid)
    told_one told = subst (λ (b : Bool). IsTrue b) (sym first.call.tells_one) told

    told_two : IsTrue (g.tells two) → IsTrue (g.tells two_mid)
    told_two told = subst (λ (b : Bool). IsTrue b) (sym first.call.tells_two) told

    before : (v : World) (journal : Journal) → InGeneration old.journal P v journal → InGeneration old.journal R v journal
    before v journal h = record { holds = from_first v journal h; version = h.version; generation = h.generation }

    after : (v : World) (journal : Journal) → InGeneration mid.journal Q v journal → InGeneration old.journal R v journal
    after v journal h =
        record { holds = from_second v journal h; version = h.version ∙ first.comes.version; generation = h.generation ∙ first.comes.generation }

    -- two steps make one
    pub stepped_then : Stepped g R whole old one two new one_new two_new
    stepped_then = record {
      call = record {
        live = second.call.live;
        stands = λ is told told_too. second.call.stands is (told_one told) (told_two told_too);
        tells_one = second.call.tells_one ∙ first.call.tells_one;
        tells_two = second.call.tells_two ∙ first.call.tells_two;
        counts = counts_since whole (g.faults one) (g.faults one_mid) (g.faults one_new) (g.faults two) (g.faults two_mid) (g.faults two_new)
            (g.failed one_new) (g.failed two_new) first.call.counts second.call.counts;
      };
      place = second.place ∙ first.place;
      comes = after new.world.world new.journal second.comes;
      images = leads_on old mid new first.place first.images second.images;
      moments = λ told told_too.
          leaves_on old.place (InGeneration old.journal P) (InGeneration mid.journal Q) (InGeneration old.journal R) one two one_mid two_mid one_new two_new
          before after (first.moments told told_too)
          (subst (λ (p : Place). LeavesHeld g p (InGeneration mid.journal Q) one_mid two_mid one_new two_new) first.place
          (second.moments (told_one told) (told_two told_too)));
    }
