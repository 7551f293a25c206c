-- What is so of images that a call sees: those that the disks read as, where they tell their bytes, and some others else.
use Rattle.std.proofs.Common.{◌≡◌, ◌+◌, ℕ, Bool, true, false, List, IsTrue, refl, sym, ap, subst, ◌∙◌}
use Rattle.wc_disk.specs.declared.disk.Disk as disk
use Rattle.wc_journal.specs.Reading.{journal_of, batches_of}
use Rattle.wc_store.specs.Held.{IsHeld, nothing}
use Rattle.wc_store.specs.Places.{its}
use Rattle.wc_store.specs.Sights.{OfImages}
use Rattle.wc_store.specs.Stores.{StandsFor, IsOfImages, HasImages, LeadsTo, PacksTo, IsMadeOf, other, packed_image}
use Rattle.wc_store.specs.declared.place.Place.{Place}
use Rattle.wc_store.specs.declared.place.Place.TheVariants.{One, Two}
use Rattle.wc_store.specs.declared.store.Store.{Store}
use Rattle.wc_store.proofs.Opened.{of_seen}
use Rattle.wc_act.specs.Owed.{Visit, visit, OfVisit}
use Rattle.wc_act.specs.StoreDeeds.{Images, HasJournal, GoesOn}

-- ---- two disks tell their bytes, or not

by_telling : (a b : Bool) (P : Type 0) → (IsTrue a → IsTrue b → P) → ((IsTrue a → IsTrue b → ⊥) → P) → P
by_telling true true P told never = told refl refl
by_telling true false P told never = never (λ first second. cc)
by_telling false b P told never = never (λ first second. cc)

-- P holds of images that a call sees where it holds of those that the disks read as, if they tell their bytes, and of some
by_seen : (v : Visit) (P : Images → Images → Type 0) → (IsTrue v.tells_one → IsTrue v.tells_two → P v.before v.after)
    → ((before : Images) × (after : Images) × P before after) → OfVisit v P
by_seen v P seen some =
    by_telling v.tells_one v.tells_two (OfVisit v P)
    (λ told told_too. record { before = v.before; after = v.after; told = λ first second. (refl, refl); are = seen told told_too })
    (λ never. record { before = some.0; after = some.1; told = λ told told_too. absurd (never told told_too); are = some.2 })

-- so it does of those that the disks read as
pub of_told : (v : Visit) (P : Images → Images → Type 0) → OfVisit v P → IsTrue v.tells_one → IsTrue v.tells_two → P v.before v.after
of_told v P o told told_too =
    let same = o.told told told_too in
    subst (λ (a : Images). P v.before a) same.1 (subst (λ (b : Images). P b o.after) same.0 o.are)

pub visit_as : (v : Visit) (P Q : Images → Images → Type 0) → ((before after : Images) → P before after → Q before after) → OfVisit v P → OfVisit v Q
visit_as v P Q more o = record { before = o.before; after = o.after; told = o.told; are = more o.before o.after o.are }

-- ---- stores

-- The images at entry hold one store and those at exit another, and the disk that the first isn't on has the same image.
pub record AreOfStores (store new : Store) (before after : Images) : Type 0 where
  pub was : IsOfImages store before.0 before.1
  pub is : IsOfImages new after.0 after.1
  pub rest : other store.place after.0 after.1 ≡ other store.place before.0 before.1

-- The images at exit hold a store that was packed beside the one that those at entry hold.
pub record AreOfPack (store new : Store) (before after : Images) : Type 0 where
  pub was : IsOfImages store before.0 before.1
  pub is : IsOfImages new after.0 after.1
  pub still : its store.place after.0 after.1 ≡ its store.place before.0 before.1
  pub written : other store.place after.0 after.1 ≡ packed_image (store.journal.generation + 1) store.world.world

-- The images at entry hold nothing, and those at exit a store, with the same image of disk two.
pub record AreOfNew (store : Store) (before after : Images) : Type 0 where
  pub bare : IsHeld before.0 before.1 nothing
  pub is : IsOfImages store after.0 after.1
  pub rest : after.1 ≡ before.1

-- the images at exit are those at entry, which hold the store
abbrev pub AreStill : Store → (before after : Images) → Type 0
AreStill store before after = (after ≡ before) × IsOfImages store before.0 before.1

-- a store's journal is that of its images
abbrev pub journal_of_images : (store : Store) (images : Images) → IsOfImages store images.0 images.1 → HasJournal images store.journal
journal_of_images store images o = record { place = store.place; batches = o.batches; chooses = o.chooses; end = o.end }

-- a store's journal goes on
pub goes_on_journal : (store new : Store) (before after : Images) → AreOfStores store new before after
    → (new.place ≡ store.place) × (new.journal.generation ≡ store.journal.generation) × (new.journal.version ≡ store.journal.version)
    → GoesOn before after store.journal new.journal
goes_on_journal store new before after are same = record {
  was = journal_of_images store before are.was;
  is = journal_of_images new after are.is;
  place = same.0;
  version = same.2;
  generation = same.1;
  rest = are.rest;
}

module _ {D : Type 0} (g : disk.Ghosts D) where
  -- the images of one disk and of the other
  its_image : (place : Place) (one two : D) → its place (g.seen one) (g.seen two) ≡ g.seen (its place one two)
  its_image One one two = refl
  its_image Two one two = refl

  other_image : (place : Place) (one two : D) → other place (g.seen one) (g.seen two) ≡ g.seen (other place one two)
  other_image One one two = refl
  other_image Two one two = refl

  -- what the disks read as holds the store that stands for them
  pub seen_images : (store : Store) (one two : D) → StandsFor g store one two → IsOfImages store (g.seen one) (g.seen two)
  seen_images store one two stands = record {
    batches = batches_of (journal_of (g.seen (its store.place one two)));
    chooses = stands.chooses;
    held = stands.held;
    end = stands.settled.stands.end;
  }

  module _ (one two one_new two_new : D) where
    abbrev Told : Type 0 → Type 0
    Told P = IsTrue (g.tells one) → IsTrue (g.tells two) → P

    -- one store was led to another
    pub are_of_stores : (store new : Store) → Told (StandsFor g store one two) → HasImages store → Told (StandsFor g new one_new two_new) → LeadsTo store new
        → Told (other store.place one_new two_new ≡ other store.place one two) → OfVisit (visit g one two one_new two_new) (AreOfStores store new)
    are_of_stores store new stands images stands_new leads untouched =
        let led = leads images.0 images.1 images.2 in
        by_seen (visit g one two one_new two_new) (AreOfStores store new)
        (λ told told_too. record {
          was = seen_images store one two (stands told told_too);
          is = seen_images new one_new two_new (stands_new told told_too);
          rest = other_image store.place one_new two_new ∙ ap g.seen (untouched told told_too) ∙ sym (other_image store.place one two);
        })
        ((images.0, images.1), (led.one_new, led.two_new), record { was = images.2; is = led.are; rest = led.rest })

    -- a store was packed
    pub are_of_pack : (store new : Store) → Told (StandsFor g store one two) → HasImages store → Told (StandsFor g new one_new two_new) → PacksTo store new
        → Told (its store.place one_new two_new ≡ its store.place one two)
        → Told (g.seen (other store.place one_new two_new) ≡ packed_image (store.journal.generation + 1) store.world.world)
        → OfVisit (visit g one two one_new two_new) (AreOfPack store new)
    are_of_pack store new stands images stands_new packs untouched written =
        let packed = packs images.0 images.1 images.2 in
        by_seen (visit g one two one_new two_new) (AreOfPack store new)
        (λ told told_too. record {
          was = seen_images store one two (stands told told_too);
          is = seen_images new one_new two_new (stands_new told told_too);
          still = its_image store.place one_new two_new ∙ ap g.seen (untouched told told_too) ∙ sym (its_image store.place one two);
          written = other_image store.place one_new two_new ∙ written told told_too;
        })
        ((images.0, images.1), (packed.one_new, packed.two_new), record { was = images.2; is = packed.are; still = packed.still; written = packed.written })

    -- a store was made
    pub are_of_new : (store : Store) → OfImages g one two (IsMadeOf store) → Told (StandsFor g store one_new two_new) → g.seen two_new ≡ g.seen two
        → OfVisit (visit g one two one_new two_new) (AreOfNew store)
    are_of_new store images stands same =
        by_seen (visit g one two one_new two_new) (AreOfNew store)
        (λ told told_too. record { bare = (of_seen g one two (IsMadeOf store) images told told_too).0; is = seen_images store one_new two_new (stands told told_too); rest = same })
        ((images.first, images.second), (images.are.1.0, images.second), record { bare = images.are.0; is = images.are.1.1; rest = refl })

    -- the disks are as they were
    pub are_still : (store : Store) → Told (StandsFor g store one two) → HasImages store → one_new ≡ one → two_new ≡ two
        → OfVisit (visit g one two one_new two_new) (AreStill store)
    are_still store stands images same same_too =
        by_seen (visit g one two one_new two_new) (AreStill store)
        (λ told told_too. ((λ i. (g.seen (same i), g.seen (same_too i))), seen_images store one two (stands told told_too)))
        ((images.0, images.1), (images.0, images.1), (refl, images.2))

    -- the disks read as before
    pub are_read : (P : List ℕ → List ℕ → Type 0) → OfImages g one two P → Told ((g.seen one_new ≡ g.seen one) × (g.seen two_new ≡ g.seen two))
        → OfVisit (visit g one two one_new two_new) (λ before after. (after ≡ before) × P before.0 before.1)
    are_read P o same = record {
      before = (o.first, o.second);
      after = (o.first, o.second);
      told = λ told told_too.
          let first = o.told_one told in
          let second = o.told_two told_too in
          let still = same told told_too in
          let first_new = first ∙ sym still.0 in
          let second_new = second ∙ sym still.1 in
          ((λ i. (first i, second i)), (λ i. (first_new i, second_new i)));
      are = (refl, o.are);
    }
