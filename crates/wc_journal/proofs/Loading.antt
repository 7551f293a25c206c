-- How an image is read, step by step.
use Rattle.std.proofs.Common.{◌≡◌, inl, inr, ℕ, zero, suc, ◌+◌, ◌-◌, ◌<◌, ◌≤◌, Bool, true, false, List, [], ◌∷◌, ◌++◌, length, take, drop, get_or, Option, Some, None, Err, refl, sym, ◌∙◌, ap, subst, arith, length-append, length-drop, add-zero}
use Rattle.std.specs.Prelude.{◌==◌, ◌||◌, if◌then◌else◌, slice_get}
use Rattle.std.proofs.lemmas.Bool.Decides.{nat_tests}
use Rattle.std.proofs.lemmas.List.{length-take, length-map, map-append, drop-drop, drop_more, drop_all}
use Rattle.wc_journal.specs.declared.error.Found.{Found}
use Rattle.wc_journal.specs.declared.error.Found.TheVariants.{Byte, End}
use Rattle.wc_journal.specs.declared.error.JournalError.{JournalError}
use Rattle.wc_journal.specs.declared.error.JournalError.TheVariants.{DiskFault, Damaged, Full, OutOfMemory}
use Rattle.wc_journal.specs.Refusals.{RefusesBatches, RefusesImage}
use Rattle.wc_journal.specs.Reading.{Placed, Outcome, Held, no_journal, damaged, header_misfit, stands_for_none, generation_in, version_in, held_by, after_header, journal_of, fits_header, misfit_from, size_of, stated, wrong_kind, and_then_batch, unless_wrong, batches_from, end_from, end_of}
use Rattle.wc_journal.specs.Framing.{HasFrame, HasBatches, placed_in, AreWithin, HasFrames}
use Rattle.wc_journal.proofs.Fronts.{and_then_all, either, reads_open, reads_shut}
use Rattle.wc_journal.proofs.Holding.{parts_hold}
use Rattle.wc_journal.proofs.Appending.{skip_over, all_then_none}

-- ---- the header
pub misfit_at : (image : List ℕ) (i : ℕ) → i < 16 → i < length image
    → misfit_from (16 - i) i (drop i image)
    ≡ (if fits_header i (get_or image i 0) then misfit_from (16 - (i + 1)) (i + 1) (drop (i + 1) image) else Some (i, Byte (get_or image i 0)))
misfit_at image i lt within =
    let left : 16 - i ≡ suc (16 - (i + 1)) = omega arith in λ j. misfit_from (left j) i (drop_more image i 0 within j)

pub misfit_end : (image : List ℕ) (i : ℕ) → i < 16 → length image ≤ i → misfit_from (16 - i) i (drop i image) ≡ Some (i, End)
misfit_end image i lt past = let left : 16 - i ≡ suc (16 - (i + 1)) = omega arith in λ j. misfit_from (left j) i (drop_all i image past j)

-- ---- a batch
skip_past : (v g : ℕ) (bytes : List ℕ) (place at skip : ℕ) → length bytes ≤ skip → batches_from v g place at skip bytes ≡ Err (at + length bytes, End)
skip_past v g [] place at skip le = ap (λ (n : ℕ). Err (n, End)) (sym (add-zero at))
skip_past v g (b ∷ bytes) place at zero le = absurd (omega arith)
skip_past v g (b ∷ bytes) place at (suc skip) le =
    let next : at + 1 + length bytes ≡ at + suc (length bytes) = omega arith in
    skip_past v g bytes place (at + 1) skip (omega arith) ∙ ap (λ (n : ℕ). Err (n, End)) next

module _ (v g place gate : ℕ) (image : List ℕ) (within : gate < length image) (open_gate : (get_or image gate 0 == 1) ≡ true) (right : wrong_kind v g place (drop (gate + 1) image) ≡ None) where
  abbrev behind : List ℕ
  behind = drop (gate + 1) image

  abbrev skip : ℕ
  skip = size_of v + stated v behind

  reads_gate : batches_from v g place gate 0 (drop gate image)
      ≡ and_then_batch (gate + 1 + size_of v, take (stated v behind) (drop (size_of v) behind)) (batches_from v g (place + 1) (gate + 1) skip behind)
  reads_gate =
      ap (λ (l : List ℕ). batches_from v g place gate 0 l) (drop_more image gate 0 within) ∙ reads_open v g place gate (get_or image gate 0) behind open_gate
      ∙ ap (λ (w : Option ℕ). unless_wrong w (gate + 1) (and_then_batch (gate + 1 + size_of v, take (stated v behind) (drop (size_of v) behind)) (batches_from v g (place + 1) (gate + 1) skip behind))) right

  -- the image ends before the batch and a gate do
  pub too_short : length behind ≤ skip → batches_from v g place gate 0 (drop gate image) ≡ Err (length image, End)
  too_short le =
      let end : gate + 1 + length behind ≡ length image = omega (arith, length-drop (gate + 1) image) in
      reads_gate ∙ ap (λ (r : Outcome). and_then_batch (gate + 1 + size_of v, take (stated v behind) (drop (size_of v) behind)) r) (skip_past v g behind (place + 1) (gate + 1) skip le)
      ∙ ap (λ (n : ℕ). Err (n, End)) end

  -- the batch is whole
  pub has_frame : skip < length behind → HasFrame v g place gate image (gate + 1 + size_of v, stated v behind)
  has_frame lt =
      let n = stated v behind in
      let next : gate + 1 + skip ≡ gate + 1 + size_of v + n = omega arith in
      record {
        later = omega arith;
        within = omega (arith, lt, length-drop (gate + 1) image);
        reads = reads_gate
            ∙ (λ i. and_then_batch (gate + 1 + size_of v, take n (drop-drop (size_of v) (gate + 1) image i)) (skip_over v g behind (place + 1) (gate + 1) skip (omega arith) i))
            ∙ ap (λ (l : List ℕ). and_then_batch (gate + 1 + size_of v, take n (drop (gate + 1 + size_of v) image)) (batches_from v g (place + 1) (gate + 1 + skip) 0 l)) (drop-drop skip (gate + 1) image)
            ∙ ap (λ (m : ℕ). and_then_batch (gate + 1 + size_of v, take n (drop (gate + 1 + size_of v) image)) (batches_from v g (place + 1) m 0 (drop m image))) next;
      }

-- ---- the loop over the batches
all_push : (bs : Placed) (b : ℕ × List ℕ) (r : Outcome) → and_then_all bs (and_then_batch b r) ≡ and_then_all (bs ++ b ∷ []) r
all_push [] b r = refl
all_push (c ∷ bs) b r = ap (and_then_batch c) (all_push bs b r)

all_then_err : (bs : Placed) (e : ℕ × Found) → and_then_all bs (Err e) ≡ Err e
all_then_err [] e = refl
all_then_err (b ∷ bs) e = ap (and_then_batch b) (all_then_err bs e)

pub end_push : (at : ℕ) (bs : Placed) (b : ℕ × List ℕ) → end_from at (bs ++ b ∷ []) ≡ b.0 + length b.1
end_push at [] b = refl
end_push at (c ∷ bs) b = end_push (c.0 + length c.1) bs b

-- the batches so far, and those from the gate on, are all
pub record IsUpTo (v g : ℕ) (image : List ℕ) (bs : Placed) (gate : ℕ) : Type 0 where
  pub within : gate ≤ length image
  pub whole : batches_from v g 0 16 0 (drop 16 image) ≡ and_then_all bs (batches_from v g (length bs) gate 0 (drop gate image))
  pub end : gate ≡ end_of bs

pub none_yet : (v g : ℕ) (image : List ℕ) → 16 ≤ length image → IsUpTo v g image [] 16
none_yet v g image long = record { within = long; whole = refl; end = refl }

pub one_more : (v g : ℕ) (image : List ℕ) (bs later : Placed) (gate start n : ℕ) (payload : List ℕ) → IsUpTo v g image bs gate → HasFrame v g (length bs) gate image (start, n)
    → payload ≡ take n (drop start image) → later ≡ bs ++ (start, payload) ∷ [] → IsUpTo v g image later (start + n)
one_more v g image bs later gate start n payload so_far frame is pushed =
    let b : ℕ × List ℕ = (start, take n (drop start image)) in
    let all : later ≡ bs ++ b ∷ [] = pushed ∙ ap (λ (p : List ℕ). bs ++ (start, p) ∷ []) is in
    let count : length bs + 1 ≡ length later = sym (ap length all ∙ omega_push bs b) in
    record {
      within = omega (arith, frame.within);
      whole = so_far.whole ∙ ap (and_then_all bs) frame.reads ∙ all_push bs b (batches_from v g (length bs + 1) (start + n) 0 (drop (start + n) image))
          ∙ (λ i. and_then_all (sym all i) (batches_from v g (count i) (start + n) 0 (drop (start + n) image)));
      end = sym (ap (end_from 16) all ∙ end_push 16 bs b ∙ omega_size);
    }
  where
    omega_push : (bs : Placed) (b : ℕ × List ℕ) → length (bs ++ b ∷ []) ≡ length bs + 1
    omega_push bs b = omega (arith, length-append bs (b ∷ []))

    omega_size : start + length (take n (drop start image)) ≡ start + n
    omega_size = omega (arith, length-take n (drop start image), length-drop start image, frame.within)

pub ends_here : (v g : ℕ) (image : List ℕ) (bs : Placed) (gate : ℕ) → IsUpTo v g image bs gate → gate < length image → (get_or image gate 0 == 1) ≡ false → HasBatches v g image (bs, gate)
ends_here v g image bs gate so_far within shut = record {
  reads = so_far.whole
      ∙ ap (λ (l : List ℕ). and_then_all bs (batches_from v g (length bs) gate 0 l)) (drop_more image gate 0 within)
      ∙ ap (and_then_all bs) (reads_shut v g (length bs) gate (get_or image gate 0) (drop (gate + 1) image) shut) ∙ all_then_none bs;
  end = so_far.end;
}

pub no_gate : (v g : ℕ) (image : List ℕ) (bs : Placed) (gate : ℕ) → IsUpTo v g image bs gate → length image ≤ gate → batches_from v g 0 16 0 (drop 16 image) ≡ Err (gate, End)
no_gate v g image bs gate so_far past =
    so_far.whole ∙ ap (λ (l : List ℕ). and_then_all bs (batches_from v g (length bs) gate 0 l)) (drop_all gate image past) ∙ all_then_err bs (gate, End)

refused_behind : (v g : ℕ) (image : List ℕ) (bs : Placed) (gate : ℕ) (e : ℕ × Found) → IsUpTo v g image bs gate → batches_from v g (length bs) gate 0 (drop gate image) ≡ Err e
    → batches_from v g 0 16 0 (drop 16 image) ≡ Err e
refused_behind v g image bs gate e so_far is = so_far.whole ∙ ap (and_then_all bs) is ∙ all_then_err bs e

-- what is refused behind the gate is refused of the whole
pub refuses_behind : (v g place : ℕ) (image : List ℕ) (bs : Placed) (gate : ℕ) (error : JournalError) → IsUpTo v g image bs gate → place ≡ length bs
    → RefusesBatches (batches_from v g place gate 0 (drop gate image)) error → RefusesBatches (batches_from v g 0 16 0 (drop 16 image)) error
refuses_behind v g place image bs gate DiskFault so_far is refused = refused
refuses_behind v g place image bs gate (Damaged at found) so_far is refused =
    refused_behind v g image bs gate (at, found) so_far (ap (λ (p : ℕ). batches_from v g p gate 0 (drop gate image)) (sym is) ∙ refused)
refuses_behind v g place image bs gate (Full count limit) so_far is refused = refused
refuses_behind v g place image bs gate OutOfMemory so_far is refused = refused

-- ---- the places of the batches
pub count_placed : (image : List ℕ) (frames : List (ℕ × ℕ)) → length frames ≡ length (placed_in image frames)
count_placed image frames = sym (length-map frames (λ f. (f.0, take f.1 (drop f.0 image))))

within_push : (image : List ℕ) (frames : List (ℕ × ℕ)) (f : ℕ × ℕ) → AreWithin image frames → f.0 + f.1 ≤ length image → AreWithin image (frames ++ f ∷ [])
within_push image [] f all one = (one, tt)
within_push image (e ∷ frames) f all one = (all.0, within_push image frames f all.1 one)

module _ (image : List ℕ) (d : ℕ × ℕ) where
  -- the image has all bytes of a payload among these
  pub within_at : (frames : List (ℕ × ℕ)) (at : ℕ) → at < length frames → AreWithin image frames → (get_or frames at d).0 + (get_or frames at d).1 ≤ length image
  within_at [] at lt all = absurd (omega arith)
  within_at (e ∷ frames) zero lt all = all.0
  within_at (e ∷ frames) (suc at) lt all = within_at frames at (omega arith) all.1

  -- the payload at a place, with its offset
  pub payload_placed : (frames : List (ℕ × ℕ)) (at : ℕ) → at < length frames
      → slice_get (placed_in image frames) at ≡ Some ((get_or frames at d).0, take (get_or frames at d).1 (drop (get_or frames at d).0 image))
  payload_placed [] at lt = absurd (omega arith)
  payload_placed (e ∷ frames) zero lt = refl
  payload_placed (e ∷ frames) (suc at) lt = payload_placed frames at (omega arith)

-- the batches at these places, and those from the gate on, are all
pub record AreUpTo (v g : ℕ) (image : List ℕ) (frames : List (ℕ × ℕ)) (gate : ℕ) : Type 0 where
  pub so_far : IsUpTo v g image (placed_in image frames) gate
  pub within : AreWithin image frames

pub one_frame_more : (v g : ℕ) (image : List ℕ) (frames later : List (ℕ × ℕ)) (gate start n : ℕ) → AreUpTo v g image frames gate
    → HasFrame v g (length frames) gate image (start, n) → later ≡ frames ++ (start, n) ∷ [] → AreUpTo v g image later (start + n)
one_frame_more v g image frames later gate start n up_to frame pushed = record {
  so_far = one_more v g image (placed_in image frames) (placed_in image later) gate start n (take n (drop start image)) up_to.so_far
      (subst (λ (p : ℕ). HasFrame v g p gate image (start, n)) (count_placed image frames) frame) refl
      (ap (placed_in image) pushed ∙ map-append (λ f. (f.0, take f.1 (drop f.0 image))) frames ((start, n) ∷ []));
  within = subst (AreWithin image) (sym pushed) (within_push image frames (start, n) up_to.within (omega (arith, frame.within)));
}

pub frames_end_here : (v g : ℕ) (image : List ℕ) (frames : List (ℕ × ℕ)) (gate : ℕ) → AreUpTo v g image frames gate → gate < length image → (get_or image gate 0 == 1) ≡ false
    → HasFrames v g image (frames, gate)
frames_end_here v g image frames gate up_to within shut = record { batches = ends_here v g image (placed_in image frames) gate up_to.so_far within shut; within = up_to.within }

-- ---- a whole image
some_none : (e : ℕ × Found) → Some e ≡ None → ⊥
some_none e is = cc

misfit_long : (left place : ℕ) (bytes : List ℕ) → misfit_from left place bytes ≡ None → left ≤ length bytes
misfit_long zero place bytes fits = omega arith
misfit_long (suc left) place [] fits = absurd (cc)
misfit_long (suc left) place (b ∷ bs) fits = elim (either (fits_header place b)) [
  | inl right ↦
      let rest : misfit_from left (place + 1) bs ≡ None
      = sym (ap (λ (c : Bool). if c then misfit_from left (place + 1) bs else Some (place, Byte b)) right) ∙ fits in
      omega (arith, misfit_long left (place + 1) bs rest)
  | inr wrong ↦
      let other : Some (place, Byte b) ≡ None
      = sym (ap (λ (c : Bool). if c then misfit_from left (place + 1) bs else Some (place, Byte b)) wrong) ∙ fits in
      absurd (some_none (place, Byte b) other)
]

pub fits_at : (left place : ℕ) (bytes : List ℕ) (i : ℕ) → misfit_from left place bytes ≡ None → i < left → fits_header (place + i) (get_or bytes i 0) ≡ true
fits_at zero place bytes i fits lt = absurd (omega arith)
fits_at (suc left) place [] i fits lt = absurd (cc)
fits_at (suc left) place (b ∷ bs) i fits lt = elim (either (fits_header place b)) [
  | inl right ↦
      let rest : misfit_from left (place + 1) bs ≡ None
      = sym (ap (λ (c : Bool). if c then misfit_from left (place + 1) bs else Some (place, Byte b)) right) ∙ fits in
      by_place i left place b bs right rest lt (λ k less. fits_at left (place + 1) bs k rest less)
  | inr wrong ↦
      let other : Some (place, Byte b) ≡ None
      = sym (ap (λ (c : Bool). if c then misfit_from left (place + 1) bs else Some (place, Byte b)) wrong) ∙ fits in
      absurd (some_none (place, Byte b) other)
]
  where
    by_place : (i left place b : ℕ) (bs : List ℕ) → fits_header place b ≡ true → misfit_from left (place + 1) bs ≡ None → i < suc left
        → ((k : ℕ) → k < left → fits_header (place + 1 + k) (get_or bs k 0) ≡ true) → fits_header (place + i) (get_or (b ∷ bs) i 0) ≡ true
    by_place zero left place b bs right rest lt more = ap (λ (p : ℕ). fits_header p b) (add-zero place) ∙ right
    by_place (suc k) left place b bs right rest lt more =
        let next : place + suc k ≡ place + 1 + k = omega arith in ap (λ (p : ℕ). fits_header p (get_or bs k 0)) next ∙ more k (omega arith)

-- the version of a header that fits is 1 or 2
pub version_known : (image : List ℕ) → header_misfit image ≡ None → (1 ≤ version_in image) × (version_in image ≤ 2)
unfolding header_misfit
version_known image fits =
    let is : (get_or image 7 0 == 1 || get_or image 7 0 == 2) ≡ true = fits_at 16 0 image 7 fits (omega arith) in
    (grind (arith, nat_tests), grind (arith, nat_tests))

pub long_header : (image : List ℕ) → header_misfit image ≡ None → 16 ≤ length image
unfolding header_misfit
long_header image fits = misfit_long 16 0 image fits

pub damaged_header : (image : List ℕ) (e : ℕ × Found) → stands_for_none image ≡ false → header_misfit image ≡ Some e → journal_of image ≡ damaged e.0 e.1
unfolding journal_of
damaged_header image e some wrong =
    ap (λ (c : Bool). if c then no_journal else after_header (header_misfit image) image) some ∙ ap (λ (o : Option (ℕ × Found)). after_header o image) wrong

pub no_generation : (image : List ℕ) → stands_for_none image ≡ false → header_misfit image ≡ None → (generation_in image == 0) ≡ true → journal_of image ≡ damaged 15 (Byte 0)
unfolding journal_of
no_generation image some fits none =
    ap (λ (c : Bool). if c then no_journal else after_header (header_misfit image) image) some ∙ ap (λ (o : Option (ℕ × Found)). after_header o image) fits
    ∙ ap (λ (c : Bool). if c then damaged 15 (Byte 0) else held_by (version_in image) (generation_in image) (batches_from (version_in image) (generation_in image) 0 16 0 (drop 16 image))) none

-- the image has a header that fits, and this is what follows it
pub held_is : (image : List ℕ) (v g : ℕ) → stands_for_none image ≡ false → header_misfit image ≡ None → (g == 0) ≡ false → version_in image ≡ v → generation_in image ≡ g
    → journal_of image ≡ held_by v g (batches_from v g 0 16 0 (drop 16 image))
held_is image v g some fits live version generation =
    parts_hold image some fits (ap (λ (n : ℕ). n == 0) generation ∙ live)
    ∙ (λ i. held_by (version i) (generation i) (batches_from (version i) (generation i) 0 16 0 (drop 16 image)))

pub refuses_image : (held : Held) (v g : ℕ) (outcome : Outcome) (error : JournalError) → held ≡ held_by v g outcome → RefusesBatches outcome error → RefusesImage held error
refuses_image held v g outcome DiskFault is refused = refused
refuses_image held v g outcome (Damaged at found) is refused = is ∙ ap (held_by v g) refused
refuses_image held v g outcome (Full count limit) is refused = refused
refuses_image held v g outcome OutOfMemory is refused = refused
