-- The images of a disk on which a journal is made.
use Rattle.std.proofs.Common.{◌≡◌, ◌⊎◌, inl, inr, ⊎_elim, ℕ, ◌+◌, ◌-◌, ◌^◌, ◌<◌, ◌≤◌, Bool, true, false, List, [], ◌∷◌, ◌++◌, length, take, drop, get_or, Option, Some, None, Ok, Err, refl, sym, ◌∙◌, ap, subst, arith, length-append, length-drop, append_assoc}
use Rattle.std.specs.Prelude.{◌==◌, ◌||◌, ◌&&◌, not, nat_le, if◌then◌else◌}
use Rattle.std.specs.Int.{w64, from_be_bytes, to_be_bytes}
use Rattle.std.proofs.lemmas.Bool.Decides.{nat_tests}
use Rattle.std.proofs.lemmas.Nat.{from_be_bytes-to_be_bytes_8}
use Rattle.std.proofs.lemmas.List.{length-take, take_at, take_all, drop_at, drop_all, drop_more, get_or-take, append-nil}
use Rattle.wc_disk.specs.Steps.{overwritten, Torn}
use Rattle.wc_journal.specs.declared.error.Found.{Found}
use Rattle.wc_journal.specs.declared.error.Found.TheVariants.{Byte}
use Rattle.wc_journal.specs.Reading.{Placed, Outcome, Held, no_journal, holds, damaged, version_in, is_snapshot_place, header_misfit, generation_in, batches_from, stands_for_none, held_by, after_header, journal_of}
use Rattle.wc_journal.specs.Frame.{prefix, heading, framed, most_of}
use Rattle.wc_journal.specs.Spelled.{spelled, gated_from, placed_from, AllStated, IsSpelled, payloads_of}
use Rattle.wc_journal.specs.Journals.{IsClosed, IsReplaced, HoldsEither, HasClosedFirst, ClosesFirst}
use Rattle.wc_journal.proofs.Fronts.{either}
use Rattle.wc_journal.proofs.Holding.{some_with, parts_hold}
use Rattle.wc_journal.proofs.Appending.{below_bound, one_batch, reads_spelled}

-- ---- an image that stands for no journal
outcome_some : (r : Outcome) (v g : ℕ) → held_by v g r ≡ no_journal → ⊥
outcome_some (Ok bs) v g is = cc
outcome_some (Err e) v g is = cc

live_some : (c : Bool) (held : Held) → (held ≡ no_journal → ⊥) → (if c then damaged 15 (Byte 0) else held) ≡ no_journal → ⊥
live_some true held some is = cc
live_some false held some is = some is

header_some : (image : List ℕ) (o : Option (ℕ × Found)) → after_header o image ≡ no_journal → ⊥
header_some image (Some e) is = cc
header_some image None is =
    live_some (generation_in image == 0) (held_by (version_in image) (generation_in image) (batches_from (version_in image) (generation_in image) 0 16 0 (drop 16 image)))
    (outcome_some (batches_from (version_in image) (generation_in image) 0 16 0 (drop 16 image)) (version_in image) (generation_in image)) is

none_by : (image : List ℕ) (c : Bool) → (if c then no_journal else after_header (header_misfit image) image) ≡ no_journal → c ≡ true
none_by image true is = refl
none_by image false is = absurd (header_some image (header_misfit image) is)

pub none_is : (image : List ℕ) → journal_of image ≡ no_journal → stands_for_none image ≡ true
unfolding journal_of
none_is image is = none_by image (stands_for_none image) is

pub none_short : (image : List ℕ) → journal_of image ≡ no_journal → length image ≤ 17
none_short image is = let none = none_is image is in grind (arith, nat_tests)

pub stands_none : (image : List ℕ) → stands_for_none image ≡ true → journal_of image ≡ no_journal
unfolding journal_of
stands_none image none = ap (λ (c : Bool). if c then no_journal else after_header (header_misfit image) image) none

shut_none : (n : ℕ) (c : Bool) → c ≡ false → n ≤ 17 → (nat_le n 1 || (nat_le n 17 && not c)) ≡ true
shut_none n c is le = grind (arith, nat_tests)

short_none : (n : ℕ) (c : Bool) → n ≤ 1 → (nat_le n 1 || (nat_le n 17 && not c)) ≡ true
short_none n c le = grind (arith, nat_tests)

-- a closed image of at most 17 bytes stands for no journal
pub closed_none : (image : List ℕ) → IsClosed image → length image ≤ 17 → journal_of image ≡ no_journal
closed_none image (inl short) le = stands_none image (short_none (length image) (get_or image 0 0 == 0x57) short)
closed_none image (inr shut) le = stands_none image (shut_none (length image) (get_or image 0 0 == 0x57) shut le)

-- ---- the first byte
pub equal_from : (a b : ℕ) → (a == b) ≡ true → a ≡ b
equal_from a b is = grind (arith, nat_tests)

-- a write of the first byte leaves the others
pub torn_one : (file image : List ℕ) → 1 ≤ length file → Torn 0 1 (length file) file image → image ≡ get_or image 0 0 ∷ drop 1 file
torn_one file image some torn =
    let size : length image ≡ length file = omega (arith, torn.no_shorter, torn.no_longer) in
    let rest : drop 1 image ≡ drop 1 file
    = sym (take_all (length file - 1) (drop 1 image) (omega (arith, length-drop 1 image, size))) ∙ torn.after ∙ take_all (length file - 1) (drop 1 file) (omega (arith, length-drop 1 file)) in
    drop_more image 0 0 (omega (arith, size)) ∙ ap (λ (l : List ℕ). get_or image 0 0 ∷ l) rest

pub same_first : (file image : List ℕ) → take 1 image ≡ take 1 file → get_or image 0 0 ≡ get_or file 0 0
same_first file image same = sym (get_or-take 1 image 0 0 (omega arith)) ∙ ap (λ (l : List ℕ). get_or l 0 0) same ∙ get_or-take 1 file 0 0 (omega arith)

-- ---- a header that was written
pub length-heading : (v g : ℕ) → length (heading v g) ≡ 15
unfolding heading
length-heading v g = refl

module _ (v g : ℕ) (known : (v ≡ 1) ⊎ (v ≡ 2)) (some : 1 ≤ g) (lt : g < 2 ^ 64) (rest : List ℕ) where
  abbrev headed_image : List ℕ
  headed_image = 0x57 ∷ (heading v g ++ rest)

  heading_fits : header_misfit headed_image ≡ None
  unfolding header_misfit heading
  heading_fits =
      let P : ℕ → Type 0 = λ w. header_misfit (0x57 ∷ (heading w g ++ rest)) ≡ None in
      ⊎_elim (λ (is : v ≡ 1). subst P (sym is) refl) (λ (is : v ≡ 2). subst P (sym is) refl) known

  heading_generation : generation_in headed_image ≡ g
  unfolding generation_in heading
  heading_generation = ap (λ (l : List ℕ). from_be_bytes w64 l) (take_at (to_be_bytes w64 g) rest 8 refl) ∙ from_be_bytes-to_be_bytes_8 g lt

  heading_version : version_in headed_image ≡ v
  unfolding heading
  heading_version = refl

  heading_behind : drop 16 headed_image ≡ rest
  unfolding heading
  heading_behind = refl

  heading_live : (generation_in headed_image == 0) ≡ false
  heading_live = ap (λ (n : ℕ). n == 0) heading_generation ∙ positive g some
    where
      positive : (n : ℕ) → 1 ≤ n → (n == 0) ≡ false
      positive n le = grind (arith, nat_tests)

  pub headed : journal_of headed_image ≡ held_by v g (batches_from v g 0 16 0 rest)
  headed =
      parts_hold headed_image (some_with headed_image refl (omega (arith, length-append (heading v g) rest, length-heading v g))) heading_fits heading_live
      ∙ (λ i. held_by (heading_version i) (heading_generation i) (batches_from (heading_version i) (heading_generation i) 0 16 0 (heading_behind i)))

pub headed_empty : (g : ℕ) → 1 ≤ g → g < 2 ^ 64 → journal_of (0x57 ∷ (heading 2 g ++ 0 ∷ [])) ≡ holds 2 g []
headed_empty g some lt = headed 2 g (inr refl) some lt (0 ∷ [])

two_places : (g : ℕ) → 2 ≤ g → true ≡ is_snapshot_place g 0
two_places g le = grind (arith, nat_tests)

pub headed_one : (g : ℕ) (payload : List ℕ) → 2 ≤ g → g < 2 ^ 64 → length payload ≤ most_of 2 → journal_of (0x57 ∷ (heading 2 g ++ 1 ∷ framed 2 true payload)) ≡ holds 2 g ((26, payload) ∷ [])
headed_one g payload some lt fits =
    headed 2 g (inr refl) (omega arith) lt (1 ∷ framed 2 true payload)
    ∙ ap (λ (l : List ℕ). held_by 2 g (batches_from 2 g 0 16 0 (1 ∷ l))) (sym (append-nil (framed 2 true payload)))
    ∙ ap (held_by 2 g) (one_batch 2 g 0 16 true payload [] (two_places g some) (below_bound 2 (length payload) fits) 1 refl)

-- ---- the last write of a new journal
module _ (file bytes new : List ℕ) (closed : HasClosedFirst file new) (ready : List ℕ) (is : ready ≡ take 1 new ++ bytes) where
  length-ready : length ready ≡ 1 + length bytes
  length-ready = omega (arith, ap length is, length-append (take 1 new) bytes, length-take 1 new, closed.some)

  behind_ready : drop 1 ready ≡ bytes
  behind_ready = ap (λ (l : List ℕ). drop 1 l) is ∙ drop_at (take 1 new) bytes 1 (omega (arith, length-take 1 new, closed.some))

  pub ready_written : overwritten 0 (0x57 ∷ []) ready ≡ 0x57 ∷ bytes
  ready_written = ap (λ (l : List ℕ). 0x57 ∷ l) behind_ready

  -- the first byte is that of a header, and then all of it is there, or it is another
  pub ready_torn : (image : List ℕ) → Torn 0 1 (length ready) ready image → (length image ≡ 1 + length bytes) × ((image ≡ 0x57 ∷ bytes) ⊎ ((get_or image 0 0 == 0x57) ≡ false))
  ready_torn image torn =
      let whole : image ≡ get_or image 0 0 ∷ bytes
      = torn_one ready image (omega (arith, length-ready)) torn ∙ ap (λ (l : List ℕ). get_or image 0 0 ∷ l) behind_ready in (
        omega (arith, torn.no_shorter, torn.no_longer, length-ready),
        elim (either (get_or image 0 0 == 0x57)) [
          | inl first ↦ inl (whole ∙ ap (λ (b : ℕ). b ∷ bytes) (equal_from _ _ first))
          | inr shut ↦ inr shut
        ],
      )

-- ---- the images of a `create`
module _ (file : List ℕ) (g : ℕ) (none : journal_of file ≡ no_journal) (some : 1 ≤ g) (lt : g < 2 ^ 64) where
  abbrev Made : List ℕ → Type 0
  Made = HoldsEither no_journal (holds 2 g [])

  pub closing_made : (image : List ℕ) → ClosesFirst file image → Made image
  closing_made image (inl same) = inl (ap journal_of same ∙ none)
  closing_made image (inr (closed, le)) = inl (closed_none image closed (omega (arith, le, none_short file none)))

  module _ (new : List ℕ) (closed : HasClosedFirst file new) where
    size : length new ≤ 17
    size = omega (arith, closed.size, none_short file none)

    -- the header and a gate go behind the first byte
    pub heading_made : (image : List ℕ) → Torn 1 16 (length new) new image → Made image
    heading_made image torn =
        let shut : (get_or image 0 0 == 0x57) ≡ false = ap (λ (b : ℕ). b == 0x57) (same_first new image torn.before) ∙ closed.shut in
        inl (closed_none image (inr shut) (omega (arith, torn.no_longer, size)))

    pub heading_written : overwritten 1 (heading 2 g ++ 0 ∷ []) new ≡ take 1 new ++ (heading 2 g ++ 0 ∷ [])
    heading_written =
        let n : length (heading 2 g ++ 0 ∷ []) ≡ 16 = omega (arith, length-append (heading 2 g) (0 ∷ []), length-heading 2 g) in
        ap (λ (l : List ℕ). (take 1 new ++ (heading 2 g ++ 0 ∷ [])) ++ l) (drop_all (1 + length (heading 2 g ++ 0 ∷ [])) new (omega (arith, n, size))) ∙ append-nil (take 1 new ++ (heading 2 g ++ 0 ∷ []))

    pub opening_made : (ready image : List ℕ) → ready ≡ take 1 new ++ (heading 2 g ++ 0 ∷ []) → Torn 0 1 (length ready) ready image → Made image
    opening_made ready image is torn =
        let n : length (heading 2 g ++ 0 ∷ []) ≡ 16 = omega (arith, length-append (heading 2 g) (0 ∷ []), length-heading 2 g) in
        let r = ready_torn file (heading 2 g ++ 0 ∷ []) new closed ready is image torn in
        ⊎_elim (λ (whole : image ≡ 0x57 ∷ (heading 2 g ++ 0 ∷ [])). inr (ap journal_of whole ∙ headed_empty g some lt))
        (λ (shut : (get_or image 0 0 == 0x57) ≡ false). inl (closed_none image (inr shut) (omega (arith, n, r.0)))) r.1

-- ---- the images of a `replace`
module _ (file : List ℕ) (g : ℕ) (payload : List ℕ) (some : 2 ≤ g) (lt : g < 2 ^ 64) (fits : length payload ≤ most_of 2) where
  abbrev Replaced : List ℕ → Type 0
  Replaced = IsReplaced file (holds 2 g ((26, payload) ∷ []))

  pub closing_replaced : (image : List ℕ) → ClosesFirst file image → Replaced image
  closing_replaced image (inl same) = inl same
  closing_replaced image (inr (closed, le)) = inr (inl closed)

  pub behind_replaced : (new image : List ℕ) → HasClosedFirst file new → take 1 image ≡ take 1 new → Replaced image
  behind_replaced new image closed same = inr (inl (inr (ap (λ (b : ℕ). b == 0x57) (same_first new image same) ∙ closed.shut)))

  pub opening_replaced : (new ready image : List ℕ) → HasClosedFirst file new → ready ≡ take 1 new ++ (heading 2 g ++ 1 ∷ framed 2 true payload) → Torn 0 1 (length ready) ready image → Replaced image
  opening_replaced new ready image closed is torn =
      let r = ready_torn file (heading 2 g ++ 1 ∷ framed 2 true payload) new closed ready is image torn in
      ⊎_elim (λ (whole : image ≡ 0x57 ∷ (heading 2 g ++ 1 ∷ framed 2 true payload)). inr (inr (ap journal_of whole ∙ headed_one g payload some lt fits)))
      (λ (shut : (get_or image 0 0 == 0x57) ≡ false). inr (inl (inr shut))) r.1

pub heading_front : (header : List ℕ) (g : ℕ) → header ≡ heading 2 g ++ 0 ∷ [] → take 15 header ≡ heading 2 g
heading_front header g is = ap (λ (l : List ℕ). take 15 l) is ∙ take_at (heading 2 g) (0 ∷ []) 15 (length-heading 2 g)

-- An image that begins with a spelled journal, and a gate behind it that is not open, holds what was spelled.
spelled_held : (v g gate : ℕ) (ps : List (List ℕ)) (rest : List ℕ) → (v ≡ 1) ⊎ (v ≡ 2) → 1 ≤ g → g < 2 ^ 64 → AllStated v ps → (gate == 1) ≡ false
    → journal_of (spelled v g ps ++ gate ∷ rest) ≡ holds v g (placed_from v 16 ps)
spelled_held v g gate ps rest known some lt fit shut =
    ap (λ (l : List ℕ). journal_of (0x57 ∷ l)) (append_assoc (heading v g) (gated_from v g 0 ps) (gate ∷ rest))
    ∙ headed v g known some lt (gated_from v g 0 ps ++ gate ∷ rest) ∙ ap (held_by v g) (reads_spelled v g gate ps rest fit shut)

pub spelled_holds : (v g : ℕ) (bs : Placed) (image : List ℕ) → IsSpelled v g bs image → journal_of image ≡ holds v g bs
spelled_holds v g bs image s =
    ap journal_of s.is ∙ spelled_held v g s.gate (payloads_of bs) s.rest s.known s.some s.small s.lengths s.shut ∙ ap (holds v g) (sym s.places)

-- ---- what was written as an empty journal, and as one with a snapshot
pub empty_spelled : (g : ℕ) → 0x57 ∷ (heading 2 g ++ 0 ∷ []) ≡ spelled 2 g [] ++ 0 ∷ []
empty_spelled g = ap (λ (l : List ℕ). 0x57 ∷ (l ++ 0 ∷ [])) (sym (append-nil (heading 2 g)))

pub one_spelled : (g : ℕ) (payload : List ℕ) → 2 ≤ g → 0x57 ∷ (heading 2 g ++ 1 ∷ framed 2 true payload) ≡ spelled 2 g (payload ∷ []) ++ 0 ∷ []
one_spelled g payload some =
    let n = length payload in
    let batch : framed 2 true payload ≡ (prefix 2 (is_snapshot_place g 0) n ++ (payload ++ [])) ++ 0 ∷ []
    = (λ i. (prefix 2 (two_places g some i) n ++ sym (append-nil payload) i) ++ 0 ∷ []) in
    ap (λ (l : List ℕ). 0x57 ∷ (heading 2 g ++ 1 ∷ l)) batch
    ∙ ap (λ (l : List ℕ). 0x57 ∷ l) (sym (append_assoc (heading 2 g) (1 ∷ (prefix 2 (is_snapshot_place g 0) n ++ (payload ++ []))) (0 ∷ [])))
