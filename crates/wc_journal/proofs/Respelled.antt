-- An image that holds a journal is its spelling, up to the gate that is not open.
use Rattle.std.proofs.Common.{◌≡◌, ◌⊎◌, inl, inr, ℕ, zero, suc, ◌+◌, ◌^◌, ◌<◌, ◌≤◌, Bool, true, false, List, [], ◌∷◌, ◌++◌, length, take, drop, get_or, Some, None, Ok, refl, sym, ◌∙◌, ap, subst, arith, length-append, length-drop, append_assoc, take-append-drop}
use Rattle.std.specs.Prelude.{◌==◌, ◌||◌, nat_lt, slice_index, if◌then◌else◌}
use Rattle.std.specs.Int.{w32, w64, from_be_bytes, to_be_bytes}
use Rattle.std.proofs.lemmas.Bool.{cases_lt}
use Rattle.std.proofs.lemmas.Bool.Decides.{nat_tests}
use Rattle.std.proofs.lemmas.Nat.{be_bytes_4, be_bytes_8}
use Rattle.std.proofs.lemmas.List.{length-take, drop-drop, drop_more, get_or-take, get_or-drop, get_or_past, ext_get_or}
use Rattle.wc_journal.specs.Reading.{Placed, magic, fits_header, header_misfit, generation_in, kind_of, is_snapshot_place, size_of, stated, wrong_kind, batches_from, journal_of, holds}
use Rattle.wc_journal.specs.Frame.{prefix, heading}
use Rattle.wc_journal.specs.Spelled.{gated_from, placed_from, payloads_of, length_bound, AllStated, IsBytes, IsSpelled}
use Rattle.wc_journal.proofs.Fronts.{either, size_least, unwrapped, reads_open, reads_shut}
use Rattle.wc_journal.proofs.Holding.{Read, reads}
use Rattle.wc_journal.proofs.Loading.{fits_at, long_header, version_known}
use Rattle.wc_journal.proofs.Writing.{equal_from}

-- ---- bytes
bytes_drop : (n : ℕ) (bytes : List ℕ) → IsBytes bytes → IsBytes (drop n bytes)
bytes_drop n bytes are i = rw get_or-drop (are (n + i))

bytes_take : (n : ℕ) (bytes : List ℕ) → IsBytes bytes → IsBytes (take n bytes)
bytes_take n bytes are i =
    elim (cases_lt i n) [
      | inl lt ↦ rw (get_or-take n bytes i 0 lt) (are i)
      | inr le ↦ rw (get_or_past (take n bytes) i 0 (omega (arith, length-take n bytes))) (omega arith)
    ]

below_four : (bytes : List ℕ) → IsBytes bytes → from_be_bytes w32 bytes < 2 ^ 32
below_four bytes are = omega (arith, are 0, are 1, are 2, are 3)

below_eight : (bytes : List ℕ) → IsBytes bytes → from_be_bytes w64 bytes < 2 ^ 64
below_eight bytes are = omega (arith, are 0, are 1, are 2, are 3, are 4, are 5, are 6, are 7)

-- ---- what stands before a payload
stated_below_by : (one : Bool) (bytes : List ℕ) → IsBytes bytes
    → (if one then from_be_bytes w32 (take 4 bytes) else from_be_bytes w64 (take 8 (drop 1 bytes))) < (if one then 2 ^ 32 else 2 ^ 64)
stated_below_by true bytes are = below_four (take 4 bytes) (bytes_take 4 bytes are)
stated_below_by false bytes are = below_eight (take 8 (drop 1 bytes)) (bytes_take 8 (drop 1 bytes) (bytes_drop 1 bytes are))

stated_below : (v : ℕ) (bytes : List ℕ) → IsBytes bytes → stated v bytes < length_bound v
unfolding stated
stated_below v bytes are = stated_below_by (v == 1) bytes are

prefix_by : (one s : Bool) (bytes : List ℕ) → IsBytes bytes → (if one then 4 else 9) ≤ length bytes → (one ≡ true) ⊎ (get_or bytes 0 0 ≡ kind_of s)
    → (if one
    then to_be_bytes w32 (if one then from_be_bytes w32 (take 4 bytes) else from_be_bytes w64 (take 8 (drop 1 bytes)))
    else kind_of s ∷ to_be_bytes w64 (if one then from_be_bytes w32 (take 4 bytes) else from_be_bytes w64 (take 8 (drop 1 bytes))))
    ≡ take (if one then 4 else 9) bytes
prefix_by true s bytes are long kind =
    be_bytes_4 (take 4 bytes) (from_be_bytes w32 (take 4 bytes)) (omega (arith, length-take 4 bytes)) (bytes_take 4 bytes are) refl
prefix_by false s [] are long kind = absurd (omega arith)
prefix_by false s (b ∷ bytes) are long (inl is) = absurd (cc)
prefix_by false s (b ∷ bytes) are long (inr kind) =
    let length_is : to_be_bytes w64 (from_be_bytes w64 (take 8 bytes)) ≡ take 8 bytes
    = be_bytes_8 (take 8 bytes) (from_be_bytes w64 (take 8 bytes)) (omega (arith, length-take 8 bytes)) (bytes_take 8 bytes (λ i. are (suc i))) refl in
    λ i. sym kind i ∷ length_is i

by_or : (c d : Bool) → (c || d) ≡ true → (c ≡ true) ⊎ (d ≡ true)
by_or true d is = inl refl
by_or false d is = inr is

right_kind : (v g place : ℕ) (bytes : List ℕ) → wrong_kind v g place bytes ≡ None → 1 ≤ length bytes → ((v == 1) ≡ true) ⊎ (get_or bytes 0 0 ≡ kind_of (is_snapshot_place g place))
unfolding wrong_kind
right_kind v g place [] right some = absurd (omega arith)
right_kind v g place (b ∷ bytes) right some =
    elim (either (v == 1 || b == kind_of (is_snapshot_place g place))) [
      | inl is ↦
          elim (by_or (v == 1) (b == kind_of (is_snapshot_place g place)) is) [
            | inl one ↦ inl one
            | inr same ↦ inr (equal_from b (kind_of (is_snapshot_place g place)) same)
          ]
      | inr is ↦
          let wrong : Some b ≡ None = sym (ap (λ (c : Bool). if c then None else Some b) is) ∙ right in
          absurd (cc)
    ]

prefix_is : (v g place : ℕ) (bytes : List ℕ) → IsBytes bytes → wrong_kind v g place bytes ≡ None → size_of v ≤ length bytes
    → prefix v (is_snapshot_place g place) (stated v bytes) ≡ take (size_of v) bytes
unfolding prefix stated
prefix_is v g place bytes are right long =
    prefix_by (v == 1) (is_snapshot_place g place) bytes are long (right_kind v g place bytes right (omega (arith, size_least v)))

-- ---- gates and batches
pub record AreSpelled (v g place at skip : ℕ) (bytes : List ℕ) (bs : Placed) : Type 0 where
  pub gate : ℕ
  pub shut : (gate == 1) ≡ false
  pub rest : List ℕ
  pub is : drop skip bytes ≡ gated_from v g place (payloads_of bs) ++ gate ∷ rest
  pub places : bs ≡ placed_from v (at + skip) (payloads_of bs)
  pub lengths : AllStated v (payloads_of bs)

spelled_open : (v g place at gate : ℕ) (bytes : List ℕ) (bs : Placed) → IsBytes bytes → (gate == 1) ≡ true → wrong_kind v g place bytes ≡ None
    → AreSpelled v g (place + 1) (at + 1) (size_of v + stated v bytes) bytes bs
    → AreSpelled v g place at 0 (gate ∷ bytes) ((at + 1 + size_of v, take (stated v bytes) (drop (size_of v) bytes)) ∷ bs)
spelled_open v g place at gate bytes bs are open_gate right more =
    let s = size_of v in
    let n = stated v bytes in
    let p : List ℕ = take n (drop s bytes) in
    let behind : List ℕ = gated_from v g (place + 1) (payloads_of bs) in
    let last : List ℕ = more.gate ∷ more.rest in
    let long : s + n < length bytes
    = omega (arith, length-drop (s + n) bytes, ap length more.is, length-append behind last) in
    let size : length p ≡ n = omega (arith, length-take n (drop s bytes), length-drop s bytes, long) in
    let front : take s bytes ≡ prefix v (is_snapshot_place g place) (length p)
    = sym (ap (prefix v (is_snapshot_place g place)) size ∙ prefix_is v g place bytes are right (omega (arith, long))) in
    let payload : drop s bytes ≡ p ++ (behind ++ last)
    = sym (take-append-drop n (drop s bytes)) ∙ ap (λ (l : List ℕ). p ++ l) (drop-drop n s bytes ∙ more.is) in
    let whole : bytes ≡ prefix v (is_snapshot_place g place) (length p) ++ (p ++ (behind ++ last))
    = sym (take-append-drop s bytes) ∙ (λ i. front i ++ payload i) in
    let joined : bytes ≡ (prefix v (is_snapshot_place g place) (length p) ++ (p ++ behind)) ++ last
    = whole ∙ ap (λ (l : List ℕ). prefix v (is_snapshot_place g place) (length p) ++ l) (sym (append_assoc p behind last))
    ∙ sym (append_assoc (prefix v (is_snapshot_place g place) (length p)) (p ++ behind) last) in
    let start : at + 1 + s ≡ at + 0 + 1 + s = omega arith in
    let next : at + 1 + (s + n) ≡ at + 0 + 1 + (s + length p) = omega (arith, size) in
    record {
      gate = more.gate;
      shut = more.shut;
      rest = more.rest;
      is = λ i. equal_from gate 1 open_gate i ∷ joined i;
      places = λ i. (start i, p) ∷ (more.places ∙ ap (λ (k : ℕ). placed_from v k (payloads_of bs)) next) i;
      lengths = (subst (λ (k : ℕ). k < length_bound v) (sym size) (stated_below v bytes are), more.lengths);
    }

are_spelled : (v g : ℕ) (bytes : List ℕ) (place at skip : ℕ) (bs : Placed) → IsBytes bytes → batches_from v g place at skip bytes ≡ Ok bs → AreSpelled v g place at skip bytes bs
are_spelled v g [] place at skip bs are is = absurd (cc)
are_spelled v g (b ∷ bytes) place at (suc skip) bs are is =
    let more = are_spelled v g bytes place (at + 1) skip bs (λ i. are (suc i)) is in
    let next : at + 1 + skip ≡ at + suc skip = omega arith in
    record {
      gate = more.gate;
      shut = more.shut;
      rest = more.rest;
      is = more.is;
      places = more.places ∙ ap (λ (k : ℕ). placed_from v k (payloads_of bs)) next;
      lengths = more.lengths;
    }
are_spelled v g (gate ∷ bytes) place at zero bs are is =
    elim (either (gate == 1)) [
      | inl open_gate ↦
          let u = unwrapped _ _ _ _ bs (sym (reads_open v g place at gate bytes open_gate) ∙ is) in
          subst (AreSpelled v g place at 0 (gate ∷ bytes)) (sym u.1.2)
          (spelled_open v g place at gate bytes u.1.0 (λ i. are (suc i)) open_gate u.0
          (are_spelled v g bytes (place + 1) (at + 1) (size_of v + stated v bytes) u.1.0 (λ i. are (suc i)) u.1.1))
      | inr shut ↦
          let same : Ok [] ≡ Ok bs = sym (reads_shut v g place at gate bytes shut) ∙ is in
          let none : [] ≡ bs = cc in
          subst (AreSpelled v g place at 0 (gate ∷ bytes)) none (record { gate = gate; shut = shut; rest = bytes; is = refl; places = refl; lengths = tt })
    ]

-- ---- a whole image
magic_at : (i b : ℕ) → i < 7 → fits_header i b ≡ true → b ≡ get_or magic i 0
magic_at i b lt fits =
    let early : nat_lt i 7 ≡ true = grind (arith, nat_tests) in
    equal_from b (get_or magic i 0) (sym (ap (λ (c : Bool). if c then b == slice_index magic i else (if i == 7 then b == 1 || b == 2 else true)) early) ∙ fits)

magic_front : (image : List ℕ) → header_misfit image ≡ None → take 7 image ≡ magic
unfolding header_misfit
magic_front image fits =
    let long = long_header image fits in
    let size : length (take 7 image) ≡ 7 = omega (arith, length-take 7 image, long) in
    ext_get_or 0 (take 7 image) magic size (λ i lt. get_or-take 7 image i 0 (omega (arith, size)) ∙ magic_at i (get_or image i 0) (omega (arith, size)) (fits_there i (omega (arith, size))))
  where
    fits_there : (i : ℕ) → i < 16 → fits_header i (get_or image i 0) ≡ true
    fits_there i lt =
        let same : 0 + i ≡ i = omega arith in subst (λ (p : ℕ). fits_header p (get_or image i 0) ≡ true) same (fits_at 16 0 image i fits lt)

module _ (image : List ℕ) (v g : ℕ) (bs : Placed) (are : IsBytes image) (read : Read image v g bs) where
  abbrev long : 16 ≤ length image
  long = long_header image read.fits

  generation_bytes : take 8 (drop 8 image) ≡ to_be_bytes w64 g
  unfolding generation_in
  generation_bytes =
      sym (be_bytes_8 (take 8 (drop 8 image)) g (omega (arith, length-take 8 (drop 8 image), length-drop 8 image, long))
      (bytes_take 8 (drop 8 image) (bytes_drop 8 image are)) (sym read.generation))

  generation_small : g < 2 ^ 64
  unfolding generation_in
  generation_small =
      subst (λ (n : ℕ). n < 2 ^ 64) read.generation (below_eight (take 8 (drop 8 image)) (bytes_take 8 (drop 8 image) (bytes_drop 8 image are)))

  behind_magic : drop 7 image ≡ v ∷ (to_be_bytes w64 g ++ drop 16 image)
  behind_magic =
      drop_more image 7 0 (omega (arith, long))
      ∙ (λ i. read.version i ∷ (sym (take-append-drop 8 (drop 8 image)) ∙ (λ j. generation_bytes j ++ drop-drop 8 8 image j)) i)

  header_front : image ≡ 0x57 ∷ (heading v g ++ drop 16 image)
  unfolding heading
  header_front = sym (take-append-drop 7 image) ∙ (λ i. magic_front image read.fits i ++ behind_magic i)

  is_spelled : IsSpelled v g bs image
  is_spelled =
      let r = are_spelled v g (drop 16 image) 0 16 0 bs (bytes_drop 16 image are) read.batches in
      let version = version_known image read.fits in
      let live : (g == 0) ≡ false = ap (λ (n : ℕ). n == 0) (sym read.generation) ∙ read.live in
      record {
        known = elim (cases_lt v 2) [
          | inl lt ↦ inl (omega (arith, version, read.version))
          | inr le ↦ inr (omega (arith, version, read.version))
        ];
        some = grind (arith, nat_tests);
        small = generation_small;
        lengths = r.lengths;
        places = r.places;
        gate = r.gate;
        shut = r.shut;
        rest = r.rest;
        is = header_front ∙ ap (λ (l : List ℕ). 0x57 ∷ (heading v g ++ l)) r.is
            ∙ ap (λ (l : List ℕ). 0x57 ∷ l) (sym (append_assoc (heading v g) (gated_from v g 0 (payloads_of bs)) (r.gate ∷ r.rest)));
      }

pub spelled_only : (v g : ℕ) (bs : Placed) (image : List ℕ) → IsBytes image → journal_of image ≡ holds v g bs → IsSpelled v g bs image
spelled_only v g bs image are is = is_spelled image v g bs are (reads image v g bs is)
