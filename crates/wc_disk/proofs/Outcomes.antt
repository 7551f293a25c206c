-- Each outcome of a crash after a call is one from before, after the call's step.
use Rattle.std.proofs.Common.{◌≡◌, ◌⊎◌, inl, inr, ⊎_elim, ℕ, ◌+◌, ◌-◌, ◌<◌, ◌≤◌, Bool, true, false, List, ◌++◌, length, take, drop, min, max, get_or, map, refl, sym, ◌∙◌, ap, subst, arith, length-append, length-drop}
use Rattle.std.specs.Prelude.{nat_lt, nat_le, ◌&&◌, ◌||◌, if◌then◌else◌}
use Rattle.std.specs.List.{range_with_len}
use Rattle.std.proofs.lemmas.Bool.{cases_lt}
use Rattle.std.proofs.lemmas.Bool.Decides.{nat_tests}
use Rattle.std.proofs.lemmas.List.{length-take, get_or-take, get_or-drop, get_or_append_left, get_or-append_right, take_at, take_all, ext_get_or}
use Rattle.std.proofs.lemmas.List.FromFn.{length-map-range_with_len, get_or-map-range_with_len}
use Rattle.wc_disk.specs.Steps.{overwritten, Torn, Cut as CutShort, Follows, IsWithin, Only}
use Rattle.wc_disk.specs.Volume.{Volume, settled, after_call, Spares, AllSpare, IsImage}
use Rattle.wc_disk.specs.declared.calls.Call.TheVariants.{Write, Cut, Sync}

-- ---- a write
module _ (v : Volume) (at : ℕ) (bytes : List ℕ) (reads : IsImage v v.seen) (within : at ≤ length v.seen) (image : List ℕ) (is : IsImage (after_call (Write at bytes) v) image) where
  abbrev n : ℕ
  n = length bytes

  abbrev end : ℕ
  end = length v.seen

  -- the byte at p is one that the write may change
  abbrev touched : ℕ → Bool
  touched p = (nat_le at p && nat_lt p (at + n)) || nat_le end p

  -- an image from before the write: as this one, with the bytes of the last sync where the write may have changed them
  abbrev byte : ℕ → ℕ
  byte p = if touched p then get_or v.synced p 0 else get_or image p 0

  abbrev size : ℕ
  size = min (length image) v.greatest

  abbrev from : List ℕ
  from = map byte (range_with_len 0 size)

  length-from : length from ≡ size
  length-from = length-map-range_with_len byte 0 size

  byte_at : (p : ℕ) → p < size → get_or from p 0 ≡ byte p
  byte_at p lt = get_or-map-range_with_len byte 0 size p p 0 lt (omega arith)

  is_touched : (p : ℕ) → (at ≤ p → p < at + n → ⊥) → p < end → touched p ≡ false
  is_touched p outside inside = grind (arith, nat_tests)

  same_byte : (p : ℕ) → p < size → (p < at) ⊎ (at + n ≤ p) → p < end → get_or from p 0 ≡ get_or image p 0
  same_byte p lt outside inside =
      let clear : touched p ≡ false = is_touched p (λ le less. ⊎_elim (λ (o : p < at). absurd (omega arith)) (λ (o : at + n ≤ p). absurd (omega arith)) outside) inside in
      byte_at p lt ∙ ap (λ (b : Bool). if b then get_or v.synced p 0 else get_or image p 0) clear

  length-new : length (overwritten at bytes v.seen) ≡ max end (at + n)
  length-new = omega (arith, length-append (take at v.seen ++ bytes) (drop (at + n) v.seen), length-append (take at v.seen) bytes, length-take at v.seen, length-drop (at + n) v.seen)

  -- what the write does not touch it spares
  spares_untouched : (p : ℕ) → touched p ≡ false → Spares p (record { at = at; count = n; end = end })
  spares_untouched p clear = elim (cases_lt p at) [
    | inl lt ↦ (inl lt, grind (arith, nat_tests))
    | inr le ↦ (inr (grind (arith, nat_tests)), grind (arith, nat_tests))
  ]

  stays_at : (p : ℕ) → p < size → p < length v.synced → AllSpare p v.pending → (b : Bool) → touched p ≡ b → get_or from p 0 ≡ get_or v.synced p 0
  stays_at p lt synced spares true e = byte_at p lt ∙ ap (λ (b : Bool). if b then get_or v.synced p 0 else get_or image p 0) e
  stays_at p lt synced spares false e =
      byte_at p lt ∙ ap (λ (b : Bool). if b then get_or v.synced p 0 else get_or image p 0) e
      ∙ is.stays p (omega arith) synced (spares_untouched p e, spares)

  from_is_image : IsImage v from
  from_is_image = record {
    least = omega (arith, length-from, is.least, is.greatest, length-new, reads.least, reads.greatest);
    greatest = omega (arith, length-from);
    stays = λ p lt synced spares. stays_at p (omega (arith, length-from, lt)) synced spares (touched p) refl;
  }

  -- bytes outside the range stay
  from_tears : Torn at n end from image
  from_tears = record {
    before = ext_get_or 0 (take at image) (take at from) (omega (arith, length-take at image, length-take at from, length-from, reads.greatest))
        (λ p lt.
        let below : (p < at) × (p < length image) = (omega (arith, length-take at image, lt), omega (arith, length-take at image, lt)) in
        get_or-take at image p 0 below.0 ∙ sym (get_or-take at from p 0 below.0 ∙ same_byte p (omega (arith, reads.greatest, below)) (inl below.0) (omega (arith, below))));
    after = ext_get_or 0 (take (end - (at + n)) (drop (at + n) image)) (take (end - (at + n)) (drop (at + n) from))
        (omega (arith, length-take (end - (at + n)) (drop (at + n) image), length-take (end - (at + n)) (drop (at + n) from), length-drop (at + n) image, length-drop (at + n) from, length-from, reads.greatest))
        (λ p lt.
        let inside : (p < end - (at + n)) × (at + n + p < length image) = (
          omega (arith, length-take (end - (at + n)) (drop (at + n) image), length-drop (at + n) image, lt),
          omega (arith, length-take (end - (at + n)) (drop (at + n) image), length-drop (at + n) image, lt),
        ) in
        get_or-take (end - (at + n)) (drop (at + n) image) p 0 inside.0 ∙ get_or-drop (at + n) image p 0
        ∙ sym (get_or-take (end - (at + n)) (drop (at + n) from) p 0 inside.0 ∙ get_or-drop (at + n) from p 0
        ∙ same_byte (at + n + p) (omega (arith, reads.greatest, inside)) (inr (omega arith)) (omega (arith, inside))));
    no_shorter = omega (arith, length-from);
    no_longer = omega (arith, length-from, is.greatest, length-new, reads.greatest);
  }

  pub write_from : (d : List ℕ) × IsImage v d × Torn at n end d image
  write_from = (from, from_is_image, from_tears)

-- ---- a cut
module _ (v : Volume) (len : ℕ) (reads : IsImage v v.seen) (within : len ≤ length v.seen) (image : List ℕ) (is : IsImage (after_call (Cut len) v) image) where
  -- the bytes that the cut took from a shorter image
  abbrev rest : List ℕ
  rest = map (λ p. get_or v.synced p 0) (range_with_len (length image) (v.least - length image))

  abbrev longer : List ℕ
  longer = image ++ rest

  length-longer : length longer ≡ max (length image) v.least
  length-longer = omega (arith, length-append image rest, length-map-range_with_len (λ p. get_or v.synced p 0) (length image) (v.least - length image))

  longer_stays : (p : ℕ) → p < length longer → p < length v.synced → AllSpare p v.pending → get_or longer p 0 ≡ get_or v.synced p 0
  longer_stays p lt synced spares = elim (cases_lt p (length image)) [
    | inl inside ↦ get_or_append_left image rest 0 p inside ∙ is.stays p inside synced spares
    | inr past ↦
        get_or-append_right image rest (length image) p 0 refl past
        ∙ get_or-map-range_with_len (λ p. get_or v.synced p 0) (length image) (v.least - length image) (p - length image) p 0 (omega (arith, length-longer, lt)) (omega arith)
  ]

  pub cut_from : (d : List ℕ) × IsImage v d × CutShort len d image
  cut_from = (
    longer,
    record {
      least = omega (arith, length-longer);
      greatest = omega (arith, length-longer, is.greatest, length-take len v.seen, reads.least, reads.greatest);
      stays = longer_stays;
    },
    record {
      no_shorter = omega (arith, length-longer, is.least, length-take len v.seen);
      front = sym (take_at image rest (length image) refl);
    },
  )

-- ---- a sync
pub only_settled : (bytes image : List ℕ) → IsImage (settled bytes) image → image ≡ bytes
only_settled bytes image is =
    ext_get_or 0 image bytes (omega (arith, is.least, is.greatest)) (λ p lt. is.stays p lt (omega (arith, is.least, is.greatest, lt)) tt)

pub sync_within : (v : Volume) → IsImage v v.seen → IsWithin (IsImage v) (IsImage (after_call Sync v))
sync_within v reads image is = subst (IsImage v) (sym (only_settled v.seen image is)) reads

-- ---- a call that may have been left out
pub torn_same : (at n end : ℕ) (image : List ℕ) → Torn at n end image image
torn_same at n end image = record { before = refl; after = refl; no_shorter = omega arith; no_longer = omega arith }

pub cut_same : (len : ℕ) (image : List ℕ) → CutShort len image image
cut_same len image = record { no_shorter = omega arith; front = sym (take_all (length image) image (omega arith)) }

pub write_follows : (v w : Volume) (at : ℕ) (bytes : List ℕ) → IsImage v v.seen → at ≤ length v.seen → (w ≡ v) ⊎ (w ≡ after_call (Write at bytes) v)
    → Follows (Torn at (length bytes) (length v.seen)) (IsImage v) (IsImage w)
write_follows v w at bytes reads within (inl same) = λ image is. (image, subst (λ (u : Volume). IsImage u image) same is, torn_same at (length bytes) (length v.seen) image)
write_follows v w at bytes reads within (inr done) = λ image is. write_from v at bytes reads within image (subst (λ (u : Volume). IsImage u image) done is)

pub cut_follows : (v w : Volume) (len : ℕ) → IsImage v v.seen → len ≤ length v.seen → (w ≡ v) ⊎ (w ≡ after_call (Cut len) v) → Follows (CutShort len) (IsImage v) (IsImage w)
cut_follows v w len reads within (inl same) = λ image is. (image, subst (λ (u : Volume). IsImage u image) same is, cut_same len image)
cut_follows v w len reads within (inr done) = λ image is. cut_from v len reads within image (subst (λ (u : Volume). IsImage u image) done is)

pub sync_follows : (v w : Volume) → IsImage v v.seen → (w ≡ v) ⊎ (w ≡ after_call Sync v) → (w.seen ≡ v.seen) × IsWithin (IsImage v) (IsImage w)
sync_follows v w reads (inl same) = (ap (λ (u : Volume). u.seen) same, λ image is. subst (λ (u : Volume). IsImage u image) same is)
sync_follows v w reads (inr done) = (ap (λ (u : Volume). u.seen) done, λ image is. sync_within v reads image (subst (λ (u : Volume). IsImage u image) done is))

pub only_synced : (v w : Volume) → w ≡ after_call Sync v → Only v.seen (IsImage w)
only_synced v w done image is = only_settled v.seen image (subst (λ (u : Volume). IsImage u image) done is)
