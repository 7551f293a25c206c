-- When two images choose a disk with a journal, whichever of the two it is.
use Rattle.std.proofs.Common.{◌≡◌, inl, inr, ℕ, ◌<◌, Bool, true, false, List, length, refl, sym, ◌∙◌, ap, subst, arith}
use Rattle.std.specs.Prelude.{◌==◌, ◌&&◌, ◌||◌, not, nat_le, nat_lt, slice_index, if◌then◌else◌}
use Rattle.std.proofs.Math.Bool.{and-false}
use Rattle.std.proofs.lemmas.Bool.{cases_Bool}
use Rattle.std.proofs.lemmas.Bool.Decides.{nat_tests}
use Rattle.wc_journal.specs.Reading.{Placed, Held, no_journal, holds, damaged, journal_of, batches_of}
use Rattle.wc_journal.specs.Journals.{IsClosed}
use Rattle.wc_world.specs.World.{World, empty}
use Rattle.wc_store.specs.declared.place.Place.{Place}
use Rattle.wc_store.specs.declared.place.Place.TheVariants.{One, Two}
use Rattle.wc_store.specs.Places.{number_of, its}
use Rattle.wc_store.specs.Stores.{other, ChoosesAs, HoldsAs}
use Rattle.wc_store.specs.Choices.{Choice, no_store, broken, on, is_nil, found_at, begins, settled_on, without_journal, later_of, chosen_of, chosen, journal_in}
use Rattle.wc_store.specs.Held.{a_world, Plays, PlaysChoice, IsHeld}
use Rattle.wc_store.proofs.Looking.{other_first, short_none}
use Rattle.wc_store.proofs.Verdicts.{first_later, second_later}

-- a disk holds no journal, or one of a lesser generation
abbrev pub IsBefore : ℕ → Held → Type 0
IsBefore g no_journal = Unit {0}
IsBefore g (holds v h bs) = h < g
IsBefore g (damaged at found) = ⊥

-- a journal of a later generation than the first has a batch
abbrev pub HasSome : ℕ → Placed → Type 0
HasSome g bs = (is_nil bs && nat_le 2 g) ≡ false

-- ---- what a choice tells of the disk that it names and of the other
abbrev Told : ℕ → Held → Held → Choice → Type 0
Told disk own rest no_store = Unit {0}
Told disk own rest (broken number at found) = Unit {0}
Told disk own rest (on number v g bs) = number ≡ disk → (own ≡ holds v g bs) × IsBefore g rest × HasSome g bs

split : (P : Choice → Type 0) (b : Bool) (x y : Choice) → (b ≡ true → P x) → (b ≡ false → P y) → P (if b then x else y)
split P true x y first second = first refl
split P false x y first second = second refl

module _ (disk : ℕ) (own rest : Held) where
  settled_told : (number : ℕ) (image : List ℕ) (v g : ℕ) (bs : Placed) → (number ≡ disk → (own ≡ holds v g bs) × IsBefore g rest) → Told disk own rest (settled_on number image v g bs)
  settled_told number image v g bs stands =
      split (Told disk own rest) (is_nil bs && nat_le 2 g) (broken number 16 (found_at image 16)) (on number v g bs)
      (λ none. tt) (λ some same. ((stands same).0, (stands same).1, some))

  without_told : (one two : List ℕ) → Told disk own rest (without_journal one two)
  without_told one two =
      split (Told disk own rest) (nat_lt 17 (length one)) (broken 1 0 (found_at one 0)) (if nat_lt 17 (length two) then broken 2 0 (found_at two 0) else no_store)
      (λ long. tt)
      (λ short. split (Told disk own rest) (nat_lt 17 (length two)) (broken 2 0 (found_at two 0)) no_store (λ long. tt) (λ short_too. tt))

  later_told : (one two : List ℕ) (v g : ℕ) (bs : Placed) (w h : ℕ) (cs : Placed)
      → (h < g → 1 ≡ disk → (own ≡ holds v g bs) × IsBefore g rest) → (g < h → 2 ≡ disk → (own ≡ holds w h cs) × IsBefore h rest)
      → Told disk own rest (later_of one two v g bs w h cs)
  later_told one two v g bs w h cs first second =
      split (Told disk own rest) (g == h) (broken 2 15 (found_at two 15)) (if nat_lt h g then settled_on 1 one v g bs else settled_on 2 two w h cs)
      (λ same. tt)
      (λ apart. split (Told disk own rest) (nat_lt h g) (settled_on 1 one v g bs) (settled_on 2 two w h cs)
      (λ less. let lt : h < g = grind (arith, nat_tests) in settled_told 1 one v g bs (first lt))
      (λ no_less. let lt : g < h = grind (arith, nat_tests) in settled_told 2 two w h cs (second lt)))

first_told : (one two : List ℕ) (own rest : Held) → Told 1 own rest (chosen_of one two own rest)
first_told one two (damaged at found) rest = tt
first_told one two no_journal (damaged at found) = tt
first_told one two (holds v g bs) (damaged at found) = tt
first_told one two no_journal no_journal = without_told 1 no_journal no_journal one two
first_told one two (holds v g bs) no_journal = settled_told 1 (holds v g bs) no_journal 1 one v g bs (λ same. (refl, tt))
first_told one two no_journal (holds v g bs) = settled_told 1 no_journal (holds v g bs) 2 two v g bs (λ same. absurd (omega arith))
first_told one two (holds v g bs) (holds w h cs) =
    later_told 1 (holds v g bs) (holds w h cs) one two v g bs w h cs (λ less same. (refl, less)) (λ less same. absurd (omega arith))

second_told : (one two : List ℕ) (own rest : Held) → Told 2 own rest (chosen_of one two rest own)
second_told one two own (damaged at found) = tt
second_told one two (damaged at found) no_journal = tt
second_told one two (damaged at found) (holds v g bs) = tt
second_told one two no_journal no_journal = without_told 2 no_journal no_journal one two
second_told one two no_journal (holds v g bs) = settled_told 2 no_journal (holds v g bs) 1 one v g bs (λ same. absurd (omega arith))
second_told one two (holds v g bs) no_journal = settled_told 2 (holds v g bs) no_journal 2 two v g bs (λ same. (refl, tt))
second_told one two (holds w h cs) (holds v g bs) =
    later_told 2 (holds w h cs) (holds v g bs) one two v g bs w h cs (λ less same. absurd (omega arith)) (λ less same. (refl, less))

-- ---- and when it is made
settled_is : (disk : ℕ) (image : List ℕ) (v g : ℕ) (bs : Placed) → HasSome g bs → settled_on disk image v g bs ≡ on disk v g bs
settled_is disk image v g bs some = ap (λ (c : Bool). if c then broken disk 16 (found_at image 16) else on disk v g bs) some

first_chosen : (one two : List ℕ) (v g : ℕ) (bs : Placed) (rest : Held) → IsBefore g rest → HasSome g bs → chosen_of one two (holds v g bs) rest ≡ on 1 v g bs
first_chosen one two v g bs no_journal before some = settled_is 1 one v g bs some
first_chosen one two v g bs (damaged at found) before some = absurd before
first_chosen one two v g bs (holds w h cs) before some =
    first_later one two v g bs w h cs (λ same. absurd (omega arith)) before ∙ settled_is 1 one v g bs some

second_chosen : (one two : List ℕ) (v g : ℕ) (bs : Placed) (rest : Held) → IsBefore g rest → HasSome g bs → chosen_of one two rest (holds v g bs) ≡ on 2 v g bs
second_chosen one two v g bs no_journal before some = settled_is 2 two v g bs some
second_chosen one two v g bs (damaged at found) before some = absurd before
second_chosen one two v g bs (holds w h cs) before some =
    second_later one two w h cs v g bs (λ same. absurd (omega arith)) (omega arith) ∙ settled_is 2 two v g bs some

-- ---- what counts as a journal
counted_held : (image : List ℕ) (v g : ℕ) (bs : Placed) → journal_in image ≡ holds v g bs → journal_of image ≡ holds v g bs
counted_held image v g bs is = elim (cases_Bool (begins image)) [
  | inl begun ↦ sym (ap (λ (c : Bool). if c then journal_of image else no_journal) begun) ∙ is
  | inr not_so ↦ let same : no_journal ≡ holds v g bs = sym (ap (λ (c : Bool). if c then journal_of image else no_journal) not_so) ∙ is in absurd (cc)
]

pub held_counted : (image : List ℕ) (v g : ℕ) (bs : Placed) → journal_of image ≡ holds v g bs → journal_in image ≡ holds v g bs
held_counted image v g bs is = elim (cases_Bool (begins image)) [
  | inl begun ↦ ap (λ (c : Bool). if c then journal_of image else no_journal) begun ∙ is
  | inr not_so ↦ elim (other_first image not_so) [
    | inl short ↦ let same : no_journal ≡ holds v g bs = sym short.0 ∙ is in absurd (cc)
    | inr long ↦ let same : damaged 0 (found_at image 0) ≡ holds v g bs = sym long.0 ∙ is in absurd (cc)
  ]
]

pub closed_counted : (image : List ℕ) → IsClosed image → journal_in image ≡ no_journal
closed_counted image (inl short) = elim (cases_Bool (begins image)) [
  | inl begun ↦ ap (λ (c : Bool). if c then journal_of image else no_journal) begun ∙ short_none image (
      let le : nat_le (length image) 1 ≡ true = grind (arith, nat_tests) in
      ap (λ (c : Bool). c || (nat_le (length image) 17 && not (slice_index image 0 == 0x57))) le
      )
  | inr not_so ↦ ap (λ (c : Bool). if c then journal_of image else no_journal) not_so
]
closed_counted image (inr shut) =
    ap (λ (c : Bool). if c then journal_of image else no_journal) (ap (λ (c : Bool). nat_le 1 (length image) && c) shut ∙ and-false (nat_le 1 (length image)))

-- ---- a disk that keeps a world beside another
pub record Keeps (place : Place) (v g : ℕ) (bs : Placed) (w : World) (own rest : List ℕ) : Type 0 where
  pub held : journal_of own ≡ holds v g bs
  pub before : IsBefore g (journal_in rest)
  pub some : HasSome g bs
  pub plays : Plays (number_of place) own g 0 empty bs (a_world w)

pub keeps_from : (place : Place) (v g : ℕ) (bs : Placed) (w : World) (one two : List ℕ) → chosen one two ≡ on (number_of place) v g bs → IsHeld one two (a_world w)
    → Keeps place v g bs w (its place one two) (other place one two)
unfolding chosen
keeps_from One v g bs w one two is held =
    let told = (subst (Told 1 (journal_in one) (journal_in two)) is (first_told one two (journal_in one) (journal_in two))) refl in
    record {
      held = counted_held one v g bs told.0;
      before = told.1;
      some = told.2;
      plays = subst (λ (c : Choice). PlaysChoice one two c (a_world w)) is held;
    }
keeps_from Two v g bs w one two is held =
    let told = (subst (Told 2 (journal_in two) (journal_in one)) is (second_told one two (journal_in two) (journal_in one))) refl in
    record {
      held = counted_held two v g bs told.0;
      before = told.1;
      some = told.2;
      plays = subst (λ (c : Choice). PlaysChoice one two c (a_world w)) is held;
    }

pub keeps_chosen : (place : Place) (v g : ℕ) (bs : Placed) (w : World) (one two : List ℕ) → Keeps place v g bs w (its place one two) (other place one two)
    → chosen one two ≡ on (number_of place) v g bs
unfolding chosen
keeps_chosen One v g bs w one two keeps =
    ap (λ (h : Held). chosen_of one two h (journal_in two)) (held_counted one v g bs keeps.held) ∙ first_chosen one two v g bs (journal_in two) keeps.before keeps.some
keeps_chosen Two v g bs w one two keeps =
    ap (λ (h : Held). chosen_of one two (journal_in one) h) (held_counted two v g bs keeps.held) ∙ second_chosen one two v g bs (journal_in one) keeps.before keeps.some

pub keeps_held : (place : Place) (v g : ℕ) (bs : Placed) (w : World) (one two : List ℕ) → Keeps place v g bs w (its place one two) (other place one two)
    → IsHeld one two (a_world w)
keeps_held One v g bs w one two keeps =
    subst (λ (c : Choice). PlaysChoice one two c (a_world w)) (sym (keeps_chosen One v g bs w one two keeps)) keeps.plays
keeps_held Two v g bs w one two keeps =
    subst (λ (c : Choice). PlaysChoice one two c (a_world w)) (sym (keeps_chosen Two v g bs w one two keeps)) keeps.plays

pub keeps_as : (place : Place) (v g : ℕ) (bs : Placed) (w : World) (own rest : List ℕ) → Keeps place v g bs w own rest → HoldsAs place own rest (a_world w)
keeps_as One v g bs w own rest keeps = keeps_held One v g bs w own rest keeps
keeps_as Two v g bs w own rest keeps = keeps_held Two v g bs w rest own keeps

pub chooses_as : (place : Place) (v g : ℕ) (bs : Placed) (w : World) (own rest : List ℕ) → Keeps place v g bs w own rest
    → ChoosesAs place own rest (on (number_of place) v g bs)
chooses_as One v g bs w own rest keeps = keeps_chosen One v g bs w own rest keeps
chooses_as Two v g bs w own rest keeps = keeps_chosen Two v g bs w rest own keeps

-- the batches are those of the image
pub keeps_named : (place : Place) (v g : ℕ) (bs : Placed) (w : World) (own rest : List ℕ) → Keeps place v g bs w own rest
    → Keeps place v g (batches_of (journal_of own)) w own rest
keeps_named place v g bs w own rest keeps = subst (λ (cs : Placed). Keeps place v g cs w own rest) (sym (ap batches_of keeps.held)) keeps
