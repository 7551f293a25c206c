-- What whole images hold.
use Rattle.std.proofs.Common.{◌≡◌, inl, inr, ℕ, zero, suc, ◌+◌, ◌<◌, ◌≤◌, Bool, true, false, List, [], ◌∷◌, length, take, drop, get_or, Option, Some, None, Ok, Err, refl, sym, ◌∙◌, ap, arith, length-drop}
use Rattle.std.specs.Prelude.{◌==◌, ◌||◌, ◌&&◌, not, nat_le, if◌then◌else◌}
use Rattle.std.specs.Int.{w64, from_be_bytes}
use Rattle.std.proofs.lemmas.Bool.Decides.{nat_tests}
use Rattle.std.proofs.lemmas.List.{take-take, drop-take, drop-drop, get_or-take, get_or-drop}
use Rattle.wc_journal.specs.declared.error.Found.{Found}
use Rattle.wc_journal.specs.declared.error.Found.TheVariants.{Byte}
use Rattle.wc_journal.specs.Reading.{Placed, Outcome, Held, no_journal, holds, damaged, fits_header, misfit_from, header_misfit, version_in, generation_in, batches_from, stands_for_none, held_by, after_header, journal_of, end_of}
use Rattle.wc_journal.proofs.Fronts.{Front, front, and_then_all, either}

-- ---- the header depends on the first 16 bytes
misfit_same : (left place : ℕ) (bs cs : List ℕ) → take left cs ≡ take left bs → misfit_from left place cs ≡ misfit_from left place bs
misfit_same zero place bs cs same = refl
misfit_same (suc left) place [] [] same = refl
misfit_same (suc left) place [] (c ∷ cs) same = absurd (cc)
misfit_same (suc left) place (b ∷ bs) [] same = absurd (cc)
misfit_same (suc left) place (b ∷ bs) (c ∷ cs) same =
    let first : c ≡ b = cc in
    let rest : take left cs ≡ take left bs = cc in
    ap (λ (k : ℕ). if fits_header place k then misfit_from left (place + 1) cs else Some (place, Byte k)) first
    ∙ ap (λ (o : Option (ℕ × Found)). if fits_header place b then o else Some (place, Byte b)) (misfit_same left (place + 1) bs cs rest)

header_same : (image other : List ℕ) → take 16 other ≡ take 16 image → header_misfit other ≡ header_misfit image
unfolding header_misfit
header_same image other same = misfit_same 16 0 image other same

generation_same : (image other : List ℕ) → take 16 other ≡ take 16 image → generation_in other ≡ generation_in image
unfolding generation_in
generation_same image other same =
    ap (λ (l : List ℕ). from_be_bytes w64 l) (sym (drop-take 8 8 other) ∙ ap (λ (l : List ℕ). drop 8 l) same ∙ drop-take 8 8 image)

byte_same : (image other : List ℕ) (p : ℕ) → p < 16 → take 16 other ≡ take 16 image → get_or other p 0 ≡ get_or image p 0
byte_same image other p lt same = sym (get_or-take 16 other p 0 lt) ∙ ap (λ (l : List ℕ). get_or l p 0) same ∙ get_or-take 16 image p 0 lt

-- ---- an image that holds a journal
pub record Read (image : List ℕ) (v g : ℕ) (bs : Placed) : Type 0 where
  pub some : stands_for_none image ≡ false
  pub fits : header_misfit image ≡ None
  pub live : (generation_in image == 0) ≡ false
  pub version : version_in image ≡ v
  pub generation : generation_in image ≡ g
  pub batches : batches_from v g 0 16 0 (drop 16 image) ≡ Ok bs

-- what follows a header that fits
abbrev body : List ℕ → Held
body image = held_by (version_in image) (generation_in image) (batches_from (version_in image) (generation_in image) 0 16 0 (drop 16 image))

pub parts_hold : (image : List ℕ) → stands_for_none image ≡ false → header_misfit image ≡ None → (generation_in image == 0) ≡ false → journal_of image ≡ body image
unfolding journal_of
parts_hold image some fits live =
    ap (λ (c : Bool). if c then no_journal else after_header (header_misfit image) image) some
    ∙ ap (λ (o : Option (ℕ × Found)). after_header o image) fits ∙ ap (λ (c : Bool). if c then damaged 15 (Byte 0) else body image) live

held_is : (v g : ℕ) (r : Outcome) (w h : ℕ) (bs : Placed) → held_by v g r ≡ holds w h bs → (v ≡ w) × (g ≡ h) × (r ≡ Ok bs)
held_is v g (Ok cs) w h bs is = (cc, cc, cc)
held_is v g (Err e) w h bs is = absurd (cc)

live_is : (image : List ℕ) (v g : ℕ) (bs : Placed) (c : Bool) → (if c then damaged 15 (Byte 0) else body image) ≡ holds v g bs → (c ≡ false) × (body image ≡ holds v g bs)
live_is image v g bs true is = absurd (cc)
live_is image v g bs false is = (refl, is)

header_is : (image : List ℕ) (v g : ℕ) (bs : Placed) (o : Option (ℕ × Found)) → after_header o image ≡ holds v g bs
    → (o ≡ None) × (((generation_in image == 0) ≡ false) × (body image ≡ holds v g bs))
header_is image v g bs (Some e) is = absurd (cc)
header_is image v g bs None is = (refl, live_is image v g bs (generation_in image == 0) is)

some_is : (image : List ℕ) (v g : ℕ) (bs : Placed) (c : Bool) → (if c then no_journal else after_header (header_misfit image) image) ≡ holds v g bs
    → (c ≡ false) × (after_header (header_misfit image) image ≡ holds v g bs)
some_is image v g bs true is = absurd (cc)
some_is image v g bs false is = (refl, is)

pub reads : (image : List ℕ) (v g : ℕ) (bs : Placed) → journal_of image ≡ holds v g bs → Read image v g bs
unfolding journal_of
reads image v g bs is =
    let a = some_is image v g bs (stands_for_none image) is in
    let b = header_is image v g bs (header_misfit image) a.1 in
    let c = held_is _ _ _ v g bs b.1.1 in
    record {
      some = a.0;
      fits = b.0;
      live = b.1.0;
      version = c.0;
      generation = c.1;
      batches = (λ i. batches_from (sym c.0 i) (sym c.1 i) 0 16 0 (drop 16 image)) ∙ c.2;
    }

-- ---- an image that is the same up to the gate that is not open
first_byte : (image : List ℕ) → header_misfit image ≡ None → (get_or image 0 0 == 0x57) ≡ true
unfolding header_misfit
first_byte [] fits = absurd (cc)
first_byte (b ∷ bs) fits = elim (either (b == 0x57)) [
  | inl is ↦ is
  | inr other ↦
      let wrong : misfit_from 16 0 (b ∷ bs) ≡ Some (0, Byte b) = ap (λ (c : Bool). if c then misfit_from 15 1 bs else Some (0, Byte b)) other in
      absurd (cc (wrong, fits))
]

pub some_with : (image : List ℕ) → (get_or image 0 0 == 0x57) ≡ true → 1 < length image → stands_for_none image ≡ false
some_with image is long =
    let short : nat_le (length image) 1 ≡ false = grind (arith, nat_tests) in
    ap (λ (c : Bool). c || (nat_le (length image) 17 && not (get_or image 0 0 == 0x57))) short ∙ ap (λ (c : Bool). nat_le (length image) 17 && not c) is ∙ and_false (nat_le (length image) 17)
  where
    and_false : (c : Bool) → (c && false) ≡ false
    and_false true = refl
    and_false false = refl

module _ (image : List ℕ) (v g : ℕ) (bs : Placed) (is : journal_of image ≡ holds v g bs) where
  abbrev read : Read image v g bs
  read = reads image v g bs is

  abbrev gate : Front v g 0 16 0 (drop 16 image) bs
  gate = front v g (drop 16 image) 0 16 0 bs read.batches

  end_is : 16 + gate.stop ≡ end_of bs
  end_is = gate.is_end

  pub end_inside : (16 ≤ end_of bs) × (end_of bs < length image)
  end_inside = (omega (arith, end_is), omega (arith, end_is, gate.inside, length-drop 16 image))

  pub end_shut : (get_or image (end_of bs) 0 == 1) ≡ false
  end_shut = ap (λ (n : ℕ). get_or image n 0 == 1) (sym end_is) ∙ ap (λ (n : ℕ). n == 1) (sym (get_or-drop 16 image gate.stop 0)) ∙ gate.closed

  pub goes_on : (other : List ℕ) → take (end_of bs) other ≡ take (end_of bs) image → end_of bs < length other
      → journal_of other ≡ held_by v g (and_then_all bs (batches_from v g (length bs) (end_of bs) 0 (drop (end_of bs) other)))
  goes_on other same long =
      let header : take 16 other ≡ take 16 image
      = sym (take-take 16 (end_of bs) other end_inside.0) ∙ ap (λ (l : List ℕ). take 16 l) same ∙ take-take 16 (end_of bs) image end_inside.0 in
      let version : version_in other ≡ v = byte_same image other 7 (omega arith) header ∙ read.version in
      let generation : generation_in other ≡ g = generation_same image other header ∙ read.generation in
      let first : (get_or other 0 0 == 0x57) ≡ true
      = ap (λ (n : ℕ). n == 0x57) (byte_same image other 0 (omega arith) header) ∙ first_byte image read.fits in
      let some : stands_for_none other ≡ false = some_with other first (omega (arith, end_inside, long)) in
      let live : (generation_in other == 0) ≡ false = ap (λ (n : ℕ). n == 0) (generation_same image other header) ∙ read.live in
      let behind : take gate.stop (drop 16 other) ≡ take gate.stop (drop 16 image)
      = sym (drop-take 16 gate.stop other) ∙ ap (λ (n : ℕ). drop 16 (take n other)) end_is ∙ ap (λ (l : List ℕ). drop 16 l) same
      ∙ ap (λ (n : ℕ). drop 16 (take n image)) (sym end_is) ∙ drop-take 16 gate.stop image in
      let places : 0 + length bs ≡ length bs = omega arith in
      parts_hold other some (header_same image other header ∙ read.fits) live
      ∙ (λ i. held_by (version i) (generation i) (batches_from (version i) (generation i) 0 16 0 (drop 16 other)))
      ∙ ap (λ (r : Outcome). held_by v g r) (gate.only_front (drop 16 other) behind
      ∙ (λ i. and_then_all bs (batches_from v g (places i) (end_is i) 0 (drop-drop gate.stop 16 other i)))
      ∙ ap (λ (n : ℕ). and_then_all bs (batches_from v g (length bs) (end_of bs) 0 (drop n other))) end_is)
