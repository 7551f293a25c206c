-- What is opened of two disks.
use Rattle.std.proofs.Common.{◌≡◌, ℕ, false, List, Option, Some, None, refl, sym, ap, subst, ◌∙◌}
use Rattle.std.specs.Prelude.{IsTrue, is_some}
use Rattle.wc_disk.specs.declared.disk.Disk as disk
use Rattle.wc_disk.specs.Steps.{Only}
use Rattle.wc_journal.specs.declared.journal.Journal.{Journal}
use Rattle.wc_journal.specs.declared.journal.Loaded.{Loaded}
use Rattle.wc_journal.specs.Reading.{Placed, journal_of, batches_of}
use Rattle.wc_journal.specs.Journals.{IsJournalOf, IsSettled}
use Rattle.wc_journal.specs.Loading.{OfImage}
use Rattle.wc_world.specs.World.{World, empty}
use Rattle.wc_store.specs.declared.error.StoreError.{StoreError}
use Rattle.wc_store.specs.declared.error.StoreError.TheVariants.{DiskFault, Damaged, Full, AlreadyThere, OutOfMemory}
use Rattle.wc_store.specs.declared.place.Place.{Place}
use Rattle.wc_store.specs.declared.place.Place.TheVariants.{One, Two}
use Rattle.wc_store.specs.declared.store.Store.{Store}
use Rattle.wc_store.specs.Places.{number_of, its}
use Rattle.wc_store.specs.Choices.{Choice, no_store, broken, on, chosen}
use Rattle.wc_store.specs.Held.{Standing, damage, a_world, Plays, PlaysChoice, IsHeld}
use Rattle.wc_store.specs.Played.{AreCounted, Makes, RefusesPlaying}
use Rattle.wc_store.specs.Opened.{Opens, IsOpenedOf}
use Rattle.wc_store.specs.Sights.{IsOn, OfImages}
use Rattle.wc_store.specs.Stores.{StandsFor, IsOfImages}
use Rattle.wc_store.specs.Refusals.{RefusesFinding, RefusesLoad}
use Rattle.wc_store.proofs.Addressed.{addressed}

module _ (one two : List ℕ) where
  held_by : (choice : Choice) (s : Standing) → chosen one two ≡ choice → PlaysChoice one two choice s → IsHeld one two s
  held_by choice s same plays = subst (λ (c : Choice). PlaysChoice one two c s) (sym same) plays

  -- what the batches of the chosen disk make is held
  pub played : (place : Place) (v n : ℕ) (bs : Placed) (s : Standing) → chosen one two ≡ on (number_of place) v n bs
      → Plays (number_of place) (its place one two) n 0 empty bs s → IsHeld one two s
  played One v n bs s choice plays = held_by (on 1 v n bs) s choice plays
  played Two v n bs s choice plays = held_by (on 2 v n bs) s choice plays

-- ---- what is so of two images
module _ {D : Type 0} (g : disk.Ghosts D) (one two : D) where
  pub images_of : (P Q : List ℕ → Type 0) (R : List ℕ → List ℕ → Type 0) → OfImage g one P → OfImage g two Q → ((a b : List ℕ) → P a → Q b → R a b) → OfImages g one two R
  images_of P Q R first second both = record {
    first = first.image;
    second = second.image;
    told_one = first.told;
    told_two = second.told;
    are = both first.image second.image first.is second.is;
  }

  pub images_as : (P Q : List ℕ → List ℕ → Type 0) → ((a b : List ℕ) → P a b → Q a b) → OfImages g one two P → OfImages g one two Q
  images_as P Q more o = record { first = o.first; second = o.second; told_one = o.told_one; told_two = o.told_two; are = more o.first o.second o.are }

  -- is so of those that the disks read as
  pub of_seen : (P : List ℕ → List ℕ → Type 0) → OfImages g one two P → IsTrue (g.tells one) → IsTrue (g.tells two) → P (g.seen one) (g.seen two)
  of_seen P o told told_too = subst (λ (b : List ℕ). P (g.seen one) b) (o.told_two told_too) (subst (λ (a : List ℕ). P a o.second) (o.told_one told) o.are)

  -- ---- refusals
  pub finding_refused : (e : StoreError) → RefusesFinding g one two e → RefusesLoad g one two e
  finding_refused DiskFault refused = tt
  finding_refused (Damaged number at found) refused =
      images_as (λ a b. chosen a b ≡ broken number at found) (λ a b. IsHeld a b (damage number at found))
      (λ a b is. held_by a b (broken number at found) (damage number at found) is refl) refused
  finding_refused (Full what count limit) refused = refused
  finding_refused AlreadyThere refused = refused
  finding_refused OutOfMemory refused = tt

  pub playing_refused : (place : Place) (loaded : Loaded) → OfImages g one two (λ a b. IsOn (chosen a b) (its place a b) place loaded) → (e : StoreError)
      → RefusesPlaying (number_of place) loaded.batches.image loaded.journal.generation loaded.batches.placed e → RefusesLoad g one two e
  playing_refused place loaded finds DiskFault refused = absurd refused
  playing_refused place loaded finds (Damaged number at found) refused =
      images_as (λ a b. IsOn (chosen a b) (its place a b) place loaded) (λ a b. IsHeld a b (damage number at found))
      (λ a b is.
      let counted : AreCounted loaded.batches.image loaded.batches.placed
      = subst (λ (image : List ℕ). AreCounted image loaded.batches.placed) (sym is.kept) (addressed loaded.journal loaded.batches.placed (its place a b) is.stands) in
      played a b place loaded.journal.version loaded.journal.generation loaded.batches.placed (damage number at found) is.chosen
      (subst (λ (image : List ℕ). Plays (number_of place) image loaded.journal.generation 0 empty loaded.batches.placed (damage number at found)) is.kept (refused counted)))
      finds
  playing_refused place loaded finds (Full what count limit) refused = refused
  playing_refused place loaded finds AlreadyThere refused = refused
  playing_refused place loaded finds OutOfMemory refused = tt

  -- ---- a store
  pub opened_of : (store : Store) (loaded : Loaded) → OfImages g one two (λ a b. IsOn (chosen a b) (its store.place a b) store.place loaded) → store.journal ≡ loaded.journal
      → Makes loaded.journal.generation loaded.batches.placed store.world.world → OfImages g one two (IsOpenedOf (Some store))
  opened_of store loaded finds same makes =
      images_as (λ a b. IsOn (chosen a b) (its store.place a b) store.place loaded) (IsOfImages store)
      (λ a b is. record {
        batches = loaded.batches.placed;
        chooses = is.chosen ∙ ap (λ (j : Journal). on (number_of store.place) j.version j.generation loaded.batches.placed) (sym same);
        held = played a b store.place loaded.journal.version loaded.journal.generation loaded.batches.placed (a_world store.world.world) is.chosen
            (makes (number_of store.place) (its store.place a b));
        end = ap (λ (j : Journal). j.end) same ∙ is.stands.end;
      })
      finds

module _ {D : Type 0} (g : disk.Ghosts D) where
  pub seen_its : (place : Place) (one two : D) → g.seen (its place one two) ≡ its place (g.seen one) (g.seen two)
  seen_its One one two = refl
  seen_its Two one two = refl

  module _ (store : Store) (bs : Placed) (one two : D) where
    pub stands : chosen (g.seen one) (g.seen two) ≡ on (number_of store.place) store.journal.version store.journal.generation bs
        → IsJournalOf store.journal bs (its store.place (g.seen one) (g.seen two)) → Makes store.journal.generation bs store.world.world
        → IsSettled g store.journal (its store.place one two)
        → Only (g.seen one) (g.may_leave one) → Only (g.seen two) (g.may_leave two) → StandsFor g store one two
    stands choice held makes settled durable_one durable_two =
        let same : batches_of (journal_of (g.seen (its store.place one two))) ≡ bs
        = ap (λ (image : List ℕ). batches_of (journal_of image)) (seen_its store.place one two) ∙ ap batches_of held.held in
        record {
          durable_one = durable_one;
          durable_two = durable_two;
          chooses = choice ∙ ap (λ (cs : Placed). on (number_of store.place) store.journal.version store.journal.generation cs) (sym same);
          held = played (g.seen one) (g.seen two) store.place store.journal.version store.journal.generation bs (a_world store.world.world) choice
              (makes (number_of store.place) (its store.place (g.seen one) (g.seen two)));
          settled = settled;
        }

  -- a store that was opened of the images that the disks read as
  pub stands_on : (store : Store) (loaded : Loaded) (one two : D) (first second : List ℕ) → g.seen one ≡ first → g.seen two ≡ second
      → IsOn (chosen first second) (its store.place first second) store.place loaded → store.journal ≡ loaded.journal
      → Makes loaded.journal.generation loaded.batches.placed store.world.world → IsSettled g loaded.journal (its store.place one two)
      → Only (g.seen one) (g.may_leave one) → Only (g.seen two) (g.may_leave two) → StandsFor g store one two
  stands_on store loaded one two first second seen_one seen_two finds same makes settled durable_one durable_two =
      let P : List ℕ → List ℕ → Type 0 = λ a b. IsOn (chosen a b) (its store.place a b) store.place loaded in
      let here : P (g.seen one) (g.seen two) = subst (λ (b : List ℕ). P (g.seen one) b) (sym seen_two) (subst (λ (a : List ℕ). P a second) (sym seen_one) finds) in
      stands store loaded.batches.placed one two
      (here.chosen ∙ ap (λ (j : Journal). on (number_of store.place) j.version j.generation loaded.batches.placed) (sym same))
      (subst (λ (j : Journal). IsJournalOf j loaded.batches.placed (its store.place (g.seen one) (g.seen two))) (sym same) here.stands)
      (subst (λ (j : Journal). Makes j.generation loaded.batches.placed store.world.world) (sym same) makes)
      (subst (λ (j : Journal). IsSettled g j (its store.place one two)) (sym same) settled) durable_one durable_two

  pub opens_none : (found : Option Store) (one two : D) → is_some found ≡ false → Opens g found one two → chosen (g.seen one) (g.seen two) ≡ no_store
  opens_none None one two none opens = opens
  opens_none (Some store) one two none opens = absurd (cc)
