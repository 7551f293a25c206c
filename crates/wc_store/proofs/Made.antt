-- A store that is made on two disks that hold none.
use Rattle.std.proofs.Common.{◌≡◌, ◌⊎◌, inl, inr, ℕ, ◌≤◌, Bool, true, false, List, [], length, Option, Some, None, refl, sym, ap, subst, ◌∙◌, arith}
use Rattle.std.specs.Prelude.{◌==◌, ◌&&◌, nat_le, nat_lt, is_some, if◌then◌else◌}
use Rattle.std.proofs.lemmas.Bool.{cases_Bool}
use Rattle.std.proofs.lemmas.Bool.Decides.{nat_tests}
use Rattle.wc_disk.specs.declared.disk.Disk as disk
use Rattle.wc_disk.specs.Steps.{Only}
use Rattle.wc_disk.specs.Images.{LeavesOnly}
use Rattle.wc_journal.specs.declared.journal.Journal.{Journal}
use Rattle.wc_journal.specs.Reading.{Placed, Held, no_journal, holds, damaged, journal_of, batches_of, end_of}
use Rattle.wc_journal.specs.Journals.{IsSettled, HoldsEither}
use Rattle.wc_world.specs.World.{empty}
use Rattle.wc_store.specs.declared.place.Place.{Place}
use Rattle.wc_store.specs.declared.place.Place.TheVariants.{One}
use Rattle.wc_store.specs.declared.store.Store.{Store}
use Rattle.wc_store.specs.Places.{number_of, its}
use Rattle.wc_store.specs.Choices.{Choice, no_store, broken, on, is_nil, found_at, without_journal, settled_on, chosen_of, chosen, journal_in}
use Rattle.wc_store.specs.Held.{a_world, nothing, HoldsAWorld, PlaysChoice, IsHeld}
use Rattle.wc_store.specs.Opened.{Opens, IsOpenedOf}
use Rattle.wc_store.specs.Sights.{OfImages}
use Rattle.wc_store.specs.Stores.{StandsFor, IsLoadedOf, InTwoParts, BeginsFrom, HoldsBy, IsFirst}
use Rattle.wc_store.proofs.Chosen.{IsBefore, keeps_chosen}
use Rattle.wc_store.proofs.Commits.{holds_by}
use Rattle.wc_store.proofs.Looking.{bare_shown}
use Rattle.wc_store.proofs.Opened.{stands, opens_none, images_as}
use Rattle.wc_store.proofs.Parts.{then_one}

-- ---- without a store the second disk counts as one without a journal
some_choice : (b : Bool) (x y : Choice) → (x ≡ no_store → ⊥) → (y ≡ no_store → ⊥) → (if b then x else y) ≡ no_store → ⊥
some_choice true x y first second is = first is
some_choice false x y first second is = second is

broken_is_some : (disk at : ℕ) (image : List ℕ) → broken disk at (found_at image at) ≡ no_store → ⊥
broken_is_some disk at image is = absurd (cc)

on_is_some : (disk v g : ℕ) (bs : Placed) → on disk v g bs ≡ no_store → ⊥
on_is_some disk v g bs is = absurd (cc)

settled_is_some : (disk : ℕ) (image : List ℕ) (v g : ℕ) (bs : Placed) → settled_on disk image v g bs ≡ no_store → ⊥
settled_is_some disk image v g bs is =
    some_choice (is_nil bs && nat_le 2 g) (broken disk 16 (found_at image 16)) (on disk v g bs) (broken_is_some disk 16 image) (on_is_some disk v g bs) is

second_none : (one two : List ℕ) (first second : Held) → chosen_of one two first second ≡ no_store → second ≡ no_journal
second_none one two (damaged at found) second is = absurd (cc)
second_none one two no_journal (damaged at found) is = absurd (cc)
second_none one two (holds v g bs) (damaged at found) is = absurd (cc)
second_none one two no_journal no_journal is = refl
second_none one two (holds v g bs) no_journal is = refl
second_none one two no_journal (holds v g bs) is = absurd (settled_is_some 2 two v g bs is)
second_none one two (holds v g bs) (holds w h cs) is =
    absurd (some_choice (g == h) (broken 2 15 (found_at two 15)) (if nat_lt h g then settled_on 1 one v g bs else settled_on 2 two w h cs)
    (broken_is_some 2 15 two)
    (some_choice (nat_lt h g) (settled_on 1 one v g bs) (settled_on 2 two w h cs) (settled_is_some 1 one v g bs) (settled_is_some 2 two w h cs)) is)

pub second_counts : (one two : List ℕ) → chosen one two ≡ no_store → journal_in two ≡ no_journal
unfolding chosen
second_counts one two none = second_none one two (journal_in one) (journal_in two) none

-- and is no longer than an unfinished header
bare_short : (one two : List ℕ) → without_journal one two ≡ no_store → length two ≤ 17
bare_short one two is = elim (cases_Bool (nat_lt 17 (length two))) [
  | inl long ↦
      let damaged_two : (if nat_lt 17 (length two) then broken 2 0 (found_at two 0) else no_store) ≡ broken 2 0 (found_at two 0)
      = ap (λ (c : Bool). if c then broken 2 0 (found_at two 0) else no_store) long in
      absurd (some_choice (nat_lt 17 (length one)) (broken 1 0 (found_at one 0)) (if nat_lt 17 (length two) then broken 2 0 (found_at two 0) else no_store)
      (broken_is_some 1 0 one) (λ none. broken_is_some 2 0 two (sym damaged_two ∙ none)) is)
  | inr short ↦ grind (arith, nat_tests)
]

second_short_of : (one two : List ℕ) (first second : Held) → chosen_of one two first second ≡ no_store → length two ≤ 17
second_short_of one two (damaged at found) second is = absurd (cc)
second_short_of one two no_journal (damaged at found) is = absurd (cc)
second_short_of one two (holds v g bs) (damaged at found) is = absurd (cc)
second_short_of one two no_journal no_journal is = bare_short one two is
second_short_of one two (holds v g bs) no_journal is = absurd (settled_is_some 1 one v g bs is)
second_short_of one two no_journal (holds v g bs) is = absurd (settled_is_some 2 two v g bs is)
second_short_of one two (holds v g bs) (holds w h cs) is =
    absurd (some_choice (g == h) (broken 2 15 (found_at two 15)) (if nat_lt h g then settled_on 1 one v g bs else settled_on 2 two w h cs)
    (broken_is_some 2 15 two)
    (some_choice (nat_lt h g) (settled_on 1 one v g bs) (settled_on 2 two w h cs) (settled_is_some 1 one v g bs) (settled_is_some 2 two w h cs)) is)

second_short : (one two : List ℕ) → chosen one two ≡ no_store → length two ≤ 17
unfolding chosen
second_short one two none = second_short_of one two (journal_in one) (journal_in two) none

pub holds_nothing : (one two : List ℕ) → chosen one two ≡ no_store → IsHeld one two nothing
holds_nothing one two none = subst (λ (c : Choice). PlaysChoice one two c nothing) (sym none) refl

-- ---- the images while a store is made
short_without : (one two : List ℕ) → length one ≤ 17 → length two ≤ 17 → without_journal one two ≡ no_store
short_without one two first second =
    let first_no : nat_lt 17 (length one) ≡ false = grind (arith, nat_tests) in
    let second_no : nat_lt 17 (length two) ≡ false = grind (arith, nat_tests) in
    ap (λ (c : Bool). if c then broken 1 0 (found_at one 0) else if nat_lt 17 (length two) then broken 2 0 (found_at two 0) else no_store) first_no
    ∙ ap (λ (c : Bool). if c then broken 2 0 (found_at two 0) else no_store) second_no

neither_chosen : (one two : List ℕ) → journal_in one ≡ no_journal → journal_in two ≡ no_journal → length one ≤ 17 → length two ≤ 17 → chosen one two ≡ no_store
unfolding chosen
neither_chosen one two first second short_one short_two = (λ i. chosen_of one two (first i) (second i)) ∙ short_without one two short_one short_two

-- beside a disk that holds none an image that is made holds nothing, or the empty world
made_holds : (entry two : List ℕ) → chosen entry two ≡ no_store → (image : List ℕ) → HoldsEither no_journal (holds 2 1 []) image
    → IsHeld image two nothing ⊎ ((journal : Journal) × IsFirst journal × HoldsBy One image two empty journal)
made_holds entry two none image (inl bare) =
    let shown = bare_shown image bare in
    inl (holds_nothing image two (neither_chosen image two shown.0 (second_counts entry two none) shown.1 (second_short entry two none)))
made_holds entry two none image (inr held) =
    let before : IsBefore 1 (journal_in two) = subst (IsBefore 1) (sym (second_counts entry two none)) tt in
    let first : Journal = record { version = 2; generation = 1; end = 16; is_numbered = omega arith; is_some = omega arith; is_known = omega arith } in
    inr (
      first,
      record { version = refl; generation = refl; end = refl },
      holds_by One first [] empty image two (record { held = held; before = before; some = refl; plays = refl }) refl,
    )

-- a store is made on disk one after both were read
pub made_parts : {D : Type 0} (g : disk.Ghosts D) (at_now : (d : D) (image : List ℕ) → g.left_since d (g.moment d) image → g.may_leave d image)
    (found : Option Store) (one two one_mid two_mid one_new : D) → is_some found ≡ false → Opens g found one_mid two_mid → g.seen one_mid ≡ g.seen one → g.seen two_mid ≡ g.seen two
    → LeavesOnly g one one_mid (g.may_leave one) → LeavesOnly g two two_mid (g.may_leave two) → Only (g.seen two_mid) (g.may_leave two_mid)
    → LeavesOnly g one_mid one_new (HoldsEither no_journal (holds 2 1 [])) → InTwoParts g one two one_new two_mid (BeginsFrom (g.seen one) (g.seen two))
made_parts g at_now found one two one_mid two_mid one_new none opens same_one same_two first_one first_two only run =
    let bare : chosen (g.seen one_mid) (g.seen two_mid) ≡ no_store = opens_none g found one_mid two_mid none opens in
    let before : IsHeld (g.seen one) (g.seen two) nothing
    = holds_nothing (g.seen one) (g.seen two) ((λ i. chosen (sym same_one i) (sym same_two i)) ∙ bare) in
    then_one g at_now one two one_mid two_mid first_one first_two one_new two_mid (BeginsFrom (g.seen one) (g.seen two)) (HoldsEither no_journal (holds 2 1 [])) only refl run
    (λ image made. record { before = before; held = made_holds (g.seen one_mid) (g.seen two_mid) bare image made })

-- ---- the store that was made
module _ {D : Type 0} (g : disk.Ghosts D) (store : Store) (one two : D) where
  pub made : store.place ≡ One → store.journal.version ≡ 2 → store.journal.generation ≡ 1 → store.world.world ≡ empty
      → journal_of (g.seen one) ≡ holds 2 1 [] → journal_in (g.seen two) ≡ no_journal → IsSettled g store.journal one → Only (g.seen two) (g.may_leave two)
      → StandsFor g store one two
  made place version generation world held none settled durable =
      let before : IsBefore 1 (journal_in (g.seen two)) = subst (IsBefore 1) (sym none) tt in
      let choice : chosen (g.seen one) (g.seen two) ≡ on 1 2 1 []
      = keeps_chosen One 2 1 [] empty (g.seen one) (g.seen two) (record { held = held; before = before; some = refl; plays = refl }) in
      let its_disk : its store.place one two ≡ one = ap (λ (p : Place). its p one two) place in
      let its_image : its store.place (g.seen one) (g.seen two) ≡ g.seen one = ap (λ (p : Place). its p (g.seen one) (g.seen two)) place in
      stands g store [] one two
      (choice ∙ (λ i. on (number_of (sym place i)) (sym version i) (sym generation i) []))
      (record {
        held = ap journal_of its_image ∙ held ∙ (λ i. holds (sym version i) (sym generation i) []);
        end = settled.stands.end ∙ ap (λ (h : Held). end_of (batches_of h)) held;
      })
      (λ disk image. ap a_world world)
      (subst (IsSettled g store.journal) (sym its_disk) settled)
      settled.durable durable

-- what was opened of two images is what they hold
pub loaded_of : {D : Type 0} (g : disk.Ghosts D) (one two : D) (found : Option Store) → OfImages g one two (IsOpenedOf found) → OfImages g one two (IsLoadedOf found)
loaded_of g one two None o = images_as g one two (λ a b. chosen a b ≡ no_store) (λ a b. IsHeld a b nothing) holds_nothing o
loaded_of g one two (Some store) o = o

pub none_opened : {D : Type 0} (g : disk.Ghosts D) (one two : D) (found : Option Store) → is_some found ≡ false → OfImages g one two (IsOpenedOf found)
    → OfImages g one two (λ a b. chosen a b ≡ no_store)
none_opened g one two None none o = o
none_opened g one two (Some store) none o = absurd (cc)

pub some_opened : {D : Type 0} (g : disk.Ghosts D) (one two : D) (found : Option Store) → is_some found ≡ true → OfImages g one two (IsOpenedOf found)
    → OfImages g one two HoldsAWorld
some_opened g one two None some o = absurd (cc)
some_opened g one two (Some store) some o = images_as g one two (IsOpenedOf (Some store)) HoldsAWorld (λ a b is. (store.world.world, is.held)) o
