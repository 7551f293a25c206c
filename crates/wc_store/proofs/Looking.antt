-- What an image shows of its disk.
use Rattle.std.proofs.Common.{◌≡◌, ◌⊎◌, inl, inr, ℕ, zero, suc, ◌+◌, ◌<◌, ◌≤◌, Bool, true, false, List, [], ◌∷◌, length, take, drop, Option, Some, None, Ok, Err, refl, sym, ◌∙◌, ap, subst, arith}
use Rattle.std.specs.Prelude.{◌==◌, nat_le, if◌then◌else◌}
use Rattle.std.proofs.lemmas.Bool.Decides.{nat_tests}
use Rattle.wc_disk.specs.declared.disk.Disk as disk
use Rattle.wc_journal.specs.declared.error.Found.{Found}
use Rattle.wc_journal.specs.declared.error.Found.TheVariants.{Byte}
use Rattle.wc_journal.specs.declared.journal.Loaded.{Loaded}
use Rattle.wc_journal.specs.Reading.{Outcome, Held, no_journal, holds, damaged, fits_header, misfit_from, header_misfit, generation_in, version_in, size_of, stated, wrong_kind, and_then_batch, unless_wrong, batches_from, stands_for_none, held_by, after_header, journal_of}
use Rattle.wc_journal.specs.Journals.{IsJournalOf}
use Rattle.wc_journal.specs.Loading.{OfImage}
use Rattle.wc_store.specs.declared.choice.Seen.{Seen}
use Rattle.wc_store.specs.declared.choice.Seen.TheVariants.{Bare, Broken, Holding}
use Rattle.wc_store.specs.Choices.{found_at, begins}
use Rattle.wc_store.specs.Sights.{Shows}

either : (b : Bool) → (b ≡ true) ⊎ (b ≡ false)
either true = inl refl
either false = inr refl

-- ---- damage comes no earlier than what is read
abbrev IsBehind : ℕ → Outcome → Type 0
IsBehind at (Ok bs) = Unit {0}
IsBehind at (Err e) = at ≤ e.0

sooner : (at : ℕ) (outcome : Outcome) → IsBehind (at + 1) outcome → IsBehind at outcome
sooner at (Ok bs) behind = tt
sooner at (Err e) behind = omega arith

and_then_behind : (at : ℕ) (b : ℕ × List ℕ) (outcome : Outcome) → IsBehind at outcome → IsBehind at (and_then_batch b outcome)
and_then_behind at b (Ok bs) behind = tt
and_then_behind at b (Err e) behind = behind

unless_behind : (wrong : Option ℕ) (at : ℕ) (outcome : Outcome) → IsBehind at outcome → IsBehind at (unless_wrong wrong at outcome)
unless_behind None at outcome behind = behind
unless_behind (Some kind) at outcome behind = omega arith

gate_behind : (open_gate : Bool) (at : ℕ) (outcome : Outcome) → IsBehind (at + 1) outcome → IsBehind at (if open_gate then outcome else Ok [])
gate_behind true at outcome behind = sooner at outcome behind
gate_behind false at outcome behind = tt

batches_behind : (v g place at skip : ℕ) (bytes : List ℕ) → IsBehind at (batches_from v g place at skip bytes)
batches_behind v g place at skip [] = omega arith
batches_behind v g place at (suc skip) (b ∷ bs) = sooner at (batches_from v g place (at + 1) skip bs) (batches_behind v g place (at + 1) skip bs)
batches_behind v g place at zero (gate ∷ bs) =
    let rest : Outcome = batches_from v g (place + 1) (at + 1) (size_of v + stated v bs) bs in
    let batch : ℕ × List ℕ = (at + 1 + size_of v, take (stated v bs) (drop (size_of v) bs)) in
    gate_behind (gate == 1) at (unless_wrong (wrong_kind v g place bs) (at + 1) (and_then_batch batch rest))
    (unless_behind (wrong_kind v g place bs) (at + 1) (and_then_batch batch rest)
    (and_then_behind (at + 1) batch rest (batches_behind v g (place + 1) (at + 1) (size_of v + stated v bs) bs)))

abbrev IsMisfitBehind : ℕ → Option (ℕ × Found) → Type 0
IsMisfitBehind place None = Unit {0}
IsMisfitBehind place (Some e) = place ≤ e.0

fits_behind : (fits : Bool) (place byte : ℕ) (rest : Option (ℕ × Found)) → IsMisfitBehind (place + 1) rest → IsMisfitBehind place (if fits then rest else Some (place, Byte byte))
fits_behind true place byte None behind = tt
fits_behind true place byte (Some e) behind = omega arith
fits_behind false place byte rest behind = omega arith

misfit_behind : (left place : ℕ) (bytes : List ℕ) → IsMisfitBehind place (misfit_from left place bytes)
misfit_behind zero place bytes = tt
misfit_behind (suc left) place [] = omega arith
misfit_behind (suc left) place (b ∷ bs) = fits_behind (fits_header place b) place b (misfit_from left (place + 1) bs) (misfit_behind left (place + 1) bs)

-- ---- an image that begins as a finished journal is not damaged at its first byte
abbrev IsLate : Held → Type 0
IsLate no_journal = Unit {0}
IsLate (holds version generation bs) = Unit {0}
IsLate (damaged at found) = 1 ≤ at

held_late : (v g : ℕ) (outcome : Outcome) → IsBehind 16 outcome → IsLate (held_by v g outcome)
held_late v g (Ok bs) behind = tt
held_late v g (Err e) behind = omega arith

numbered_late : (none : Bool) (held : Held) → IsLate held → IsLate (if none then damaged 15 (Byte 0) else held)
numbered_late true held late = omega arith
numbered_late false held late = late

after_late : (misfit : Option (ℕ × Found)) (image : List ℕ) → IsMisfitBehind 1 misfit → IsLate (after_header misfit image)
after_late (Some e) image behind = behind
after_late None image behind =
    let outcome : Outcome = batches_from (version_in image) (generation_in image) 0 16 0 (drop 16 image) in
    numbered_late (generation_in image == 0) (held_by (version_in image) (generation_in image) outcome)
    (held_late (version_in image) (generation_in image) outcome (batches_behind (version_in image) (generation_in image) 0 16 0 (drop 16 image)))

none_late : (none : Bool) (held : Held) → IsLate held → IsLate (if none then no_journal else held)
none_late true held late = tt
none_late false held late = late

first_fits : (b : ℕ) (bs : List ℕ) → (b == 0x57) ≡ true → IsMisfitBehind 1 (header_misfit (b ∷ bs))
unfolding header_misfit
first_fits b bs first =
    subst (λ (c : Bool). IsMisfitBehind 1 (if c then misfit_from 15 1 bs else Some (0, Byte b))) (sym first) (misfit_behind 15 1 bs)

begun_late : (image : List ℕ) → begins image ≡ true → IsLate (journal_of image)
unfolding journal_of
begun_late [] begun = absurd (cc)
begun_late (b ∷ bs) begun =
    let first : (b == 0x57) ≡ true = grind (arith, nat_tests) in
    none_late (stands_for_none (b ∷ bs)) (after_header (header_misfit (b ∷ bs)) (b ∷ bs)) (after_late (header_misfit (b ∷ bs)) (b ∷ bs) (first_fits b bs first))

-- ---- another image is short, or damaged at its first byte
first_misfit : (b : ℕ) (bs : List ℕ) → (b == 0x57) ≡ false → header_misfit (b ∷ bs) ≡ Some (0, Byte b)
unfolding header_misfit
first_misfit b bs other = ap (λ (c : Bool). if c then misfit_from 15 1 bs else Some (0, Byte b)) other

pub short_none : (image : List ℕ) → stands_for_none image ≡ true → journal_of image ≡ no_journal
unfolding journal_of
short_none image short = ap (λ (c : Bool). if c then no_journal else after_header (header_misfit image) image) short

long_misfit : (image : List ℕ) (e : ℕ × Found) → stands_for_none image ≡ false → header_misfit image ≡ Some e → journal_of image ≡ damaged e.0 e.1
unfolding journal_of
long_misfit image e long misfit =
    ap (λ (c : Bool). if c then no_journal else after_header (header_misfit image) image) long ∙ ap (λ (o : Option (ℕ × Found)). after_header o image) misfit

abbrev pub IsOther : List ℕ → Type 0
IsOther image = ((journal_of image ≡ no_journal) × (length image ≤ 17)) ⊎ ((journal_of image ≡ damaged 0 (found_at image 0)) × (17 < length image))

pub other_first : (image : List ℕ) → begins image ≡ false → IsOther image
other_first [] other = inl (short_none [] refl, omega arith)
other_first (b ∷ bs) other =
    let first : (b == 0x57) ≡ false = grind (arith, nat_tests) in
    elim (either (nat_le (length (b ∷ bs)) 17)) [
      | inl short ↦
          let stands : stands_for_none (b ∷ bs) ≡ true = grind (arith, nat_tests) in
          inl (short_none (b ∷ bs) stands, grind (arith, nat_tests))
      | inr long ↦
          let stands : stands_for_none (b ∷ bs) ≡ false = grind (arith, nat_tests) in
          let byte : Byte b ≡ found_at (b ∷ bs) 0 = grind (arith, nat_tests) in
          inr (long_misfit (b ∷ bs) (0, Byte b) stands (first_misfit b bs first) ∙ ap (λ (f : Found). damaged 0 f) byte, grind (arith, nat_tests))
    ]

-- ---- what an image shows
after_some : (misfit : Option (ℕ × Found)) (image : List ℕ) → after_header misfit image ≡ no_journal → ⊥
after_some (Some e) image is = absurd (cc)
after_some None image is =
    by_number (generation_in image == 0) (version_in image) (generation_in image) (batches_from (version_in image) (generation_in image) 0 16 0 (drop 16 image)) is
  where
    by_number : (none : Bool) (v g : ℕ) (outcome : Outcome) → (if none then damaged 15 (Byte 0) else held_by v g outcome) ≡ no_journal → ⊥
    by_number true v g outcome is = absurd (cc)
    by_number false v g (Ok bs) is = absurd (cc)
    by_number false v g (Err e) is = absurd (cc)

none_short : (image : List ℕ) → journal_of image ≡ no_journal → length image ≤ 17
unfolding journal_of
none_short image none = elim (either (stands_for_none image)) [
  | inl short ↦ grind (arith, nat_tests)
  | inr long ↦
      absurd (after_some (header_misfit image) image (sym (ap (λ (c : Bool). if c then no_journal else after_header (header_misfit image) image) long) ∙ none))
]

pub bare_shown : (image : List ℕ) → journal_of image ≡ no_journal → Shows image (Bare None)
bare_shown image none = (
  elim (either (begins image)) [
    | inl begun ↦ ap (λ (c : Bool). if c then journal_of image else no_journal) begun ∙ none
    | inr other ↦ ap (λ (c : Bool). if c then journal_of image else no_journal) other
  ],
  none_short image none,
)

late_not_first : (found : Found) (held : Held) → IsLate held → held ≡ damaged 0 found → ⊥
late_not_first found held late is = absurd (omega (arith, subst IsLate is late))

pub foreign_shown : (image : List ℕ) (at : ℕ) (found : Found) → at ≡ 0 → journal_of image ≡ damaged at found → Shows image (Bare (Some found))
foreign_shown image at found first is = elim (either (begins image)) [
  | inl begun ↦ absurd (late_not_first found (journal_of image) (begun_late image begun) (is ∙ ap (λ (n : ℕ). damaged n found) first))
  | inr other ↦ elim (other_first image other) [
    | inl short ↦ let same : no_journal ≡ damaged at found = sym short.0 ∙ is in absurd (cc)
    | inr long ↦
        let same : damaged 0 (found_at image 0) ≡ damaged at found = sym long.0 ∙ is in
        let byte : found ≡ found_at image 0 = cc in
        (ap (λ (c : Bool). if c then journal_of image else no_journal) other, (long.1, byte))
  ]
]

pub broken_shown : (image : List ℕ) (at : ℕ) (found : Found) → 0 < at → journal_of image ≡ damaged at found → Shows image (Broken at found)
broken_shown image at found behind is = elim (either (begins image)) [
  | inl begun ↦ ap (λ (c : Bool). if c then journal_of image else no_journal) begun ∙ is
  | inr other ↦ elim (other_first image other) [
    | inl short ↦ let same : no_journal ≡ damaged at found = sym short.0 ∙ is in absurd (cc)
    | inr long ↦
        let same : damaged 0 (found_at image 0) ≡ damaged at found = sym long.0 ∙ is in
        let place : 0 ≡ at = cc in absurd (omega arith)
  ]
]

pub holding_shown : (image : List ℕ) (loaded : Loaded) → loaded.batches.image ≡ image → IsJournalOf loaded.journal loaded.batches.placed image → Shows image (Holding loaded)
holding_shown image loaded same stands = elim (either (begins image)) [
  | inl begun ↦ record {
    kept = same;
    counts = ap (λ (c : Bool). if c then journal_of image else no_journal) begun ∙ stands.held;
    stands = stands;
  }
  | inr other ↦ elim (other_first image other) [
    | inl short ↦ let other : no_journal ≡ holds loaded.journal.version loaded.journal.generation loaded.batches.placed = sym short.0 ∙ stands.held in absurd (cc)
    | inr long ↦ let other : damaged 0 (found_at image 0) ≡ holds loaded.journal.version loaded.journal.generation loaded.batches.placed = sym long.0 ∙ stands.held in absurd (cc)
  ]
]

pub none_seen : (image : List ℕ) (seen : Seen) → seen ≡ Bare None → Shows image seen → journal_of image ≡ no_journal
none_seen image seen bare shows =
    let shown : Shows image (Bare None) = subst (Shows image) bare shows in
    elim (either (begins image)) [
      | inl begun ↦ sym (ap (λ (c : Bool). if c then journal_of image else no_journal) begun) ∙ shown.0
      | inr other ↦ elim (other_first image other) [ inl short ↦ short.0 | inr long ↦ absurd (omega (arith, long.1, shown.1)) ]
    ]

-- what is so of an image that was read
pub image_as : {D : Type 0} (g : disk.Ghosts D) (d : D) (P Q : List ℕ → Type 0) → ((image : List ℕ) → P image → Q image) → OfImage g d P → OfImage g d Q
image_as g d P Q more o = record { image = o.image; told = o.told; is = more o.image o.is }
