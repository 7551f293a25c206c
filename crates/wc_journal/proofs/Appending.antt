-- What images hold in which a batch stands behind the gate that was not open.
use Rattle.std.proofs.Common.{◌≡◌, ◌⊎◌, inl, inr, ℕ, zero, suc, ◌+◌, ◌-◌, ◌/◌, ◌%◌, ◌^◌, ◌<◌, ◌≤◌, Bool, true, false, List, [], ◌∷◌, ◌++◌, length, take, drop, get_or, Option, Some, None, Ok, refl, sym, ◌∙◌, ap, arith, length-append, length-drop, add-zero, append_assoc}
use Rattle.std.specs.Prelude.{◌==◌, ◌||◌, if◌then◌else◌}
use Rattle.std.specs.Int.{w32, w64, from_be_bytes, to_be_bytes}
use Rattle.std.proofs.lemmas.Bool.Decides.{nat_tests}
use Rattle.std.proofs.lemmas.Nat.{from_be_bytes-to_be_bytes_4, from_be_bytes-to_be_bytes_8}
use Rattle.std.proofs.lemmas.List.{length-take, take-take, take_at, drop_at, drop-drop, drop_more, get_or-take}
use Rattle.wc_journal.specs.Reading.{Placed, Outcome, holds, kind_of, is_snapshot_place, size_of, stated, wrong_kind, and_then_batch, unless_wrong, batches_from, held_by, journal_of, end_of}
use Rattle.wc_journal.specs.Frame.{prefix, framed, payload_in, most_of}
use Rattle.wc_journal.specs.Spelled.{gated_from, placed_from, length_bound, AllStated}
use Rattle.wc_journal.proofs.Fronts.{and_then_all, either, reads_open, reads_shut}
use Rattle.wc_journal.proofs.Holding.{goes_on, end_inside, end_shut}

pub all_then_none : (bs : Placed) → and_then_all bs (Ok []) ≡ Ok bs
all_then_none [] = refl
all_then_none (b ∷ bs) = ap (and_then_batch b) (all_then_none bs)

pub all_then_one : (bs : Placed) (b : ℕ × List ℕ) → and_then_all bs (Ok (b ∷ [])) ≡ Ok (bs ++ b ∷ [])
all_then_one [] b = refl
all_then_one (c ∷ bs) b = ap (and_then_batch c) (all_then_one bs b)

-- the bytes before a gate are passed over
pub skip_over : (v g : ℕ) (bytes : List ℕ) (place at skip : ℕ) → skip ≤ length bytes → batches_from v g place at skip bytes ≡ batches_from v g place (at + skip) 0 (drop skip bytes)
skip_over v g bytes place at zero le = ap (λ (n : ℕ). batches_from v g place n 0 bytes) (sym (add-zero at))
skip_over v g [] place at (suc skip) le = absurd (omega arith)
skip_over v g (b ∷ bytes) place at (suc skip) le =
    let next : at + 1 + skip ≡ at + suc skip = omega arith in
    skip_over v g bytes place (at + 1) skip (omega arith) ∙ ap (λ (n : ℕ). batches_from v g place n 0 (drop skip bytes)) next

-- ---- what stands before a payload
length_by : (one : Bool) (s : Bool) (n : ℕ) → length (if one then to_be_bytes w32 n else kind_of s ∷ to_be_bytes w64 n) ≡ (if one then 4 else 9)
length_by true s n = refl
length_by false s n = refl

pub length-prefix : (v : ℕ) (s : Bool) (n : ℕ) → length (prefix v s n) ≡ size_of v
unfolding prefix
length-prefix v s n = length_by (v == 1) s n

stated_by : (one : Bool) (s : Bool) (n : ℕ) (bytes : List ℕ) → n < (if one then 2 ^ 32 else 2 ^ 64)
    → (if one then from_be_bytes w32 (take 4 ((if one then to_be_bytes w32 n else kind_of s ∷ to_be_bytes w64 n) ++ bytes))
    else from_be_bytes w64 (take 8 (drop 1 ((if one then to_be_bytes w32 n else kind_of s ∷ to_be_bytes w64 n) ++ bytes)))) ≡ n
stated_by true s n bytes lt = ap (λ (l : List ℕ). from_be_bytes w32 l) (take_at (to_be_bytes w32 n) bytes 4 refl) ∙ from_be_bytes-to_be_bytes_4 n lt
stated_by false s n bytes lt = ap (λ (l : List ℕ). from_be_bytes w64 l) (take_at (to_be_bytes w64 n) bytes 8 refl) ∙ from_be_bytes-to_be_bytes_8 n lt

pub stated-prefix : (v : ℕ) (s : Bool) (n : ℕ) (bytes : List ℕ) → n < length_bound v → stated v (prefix v s n ++ bytes) ≡ n
unfolding stated prefix
stated-prefix v s n bytes lt = stated_by (v == 1) s n bytes lt

right_by : (v g place : ℕ) (s : Bool) (n : ℕ) (bytes : List ℕ) (one : Bool) → (v == 1) ≡ one → s ≡ is_snapshot_place g place
    → wrong_kind v g place ((if one then to_be_bytes w32 n else kind_of s ∷ to_be_bytes w64 n) ++ bytes) ≡ None
unfolding wrong_kind
right_by v g place s n bytes true is kind =
    ap (λ (c : Bool). if c || (n / 16777216) % 256 == kind_of (is_snapshot_place g place) then None else Some ((n / 16777216) % 256)) is
right_by v g place s n bytes false is kind =
    let same : (kind_of s == kind_of (is_snapshot_place g place)) ≡ true = ap (λ (t : Bool). kind_of s == kind_of t) (sym kind) ∙ equal (kind_of s) in
    ap (λ (c : Bool). if c || kind_of s == kind_of (is_snapshot_place g place) then None else Some (kind_of s)) is
    ∙ ap (λ (c : Bool). if c then None else Some (kind_of s)) same
  where
    equal : (k : ℕ) → (k == k) ≡ true
    equal k = grind (arith, nat_tests)

right-prefix : (v g place : ℕ) (s : Bool) (n : ℕ) (bytes : List ℕ) → s ≡ is_snapshot_place g place → wrong_kind v g place (prefix v s n ++ bytes) ≡ None
unfolding prefix
right-prefix v g place s n bytes kind = right_by v g place s n bytes (v == 1) refl kind

pub length-framed : (v : ℕ) (s : Bool) (payload : List ℕ) → length (framed v s payload) ≡ size_of v + length payload + 1
length-framed v s payload =
    omega (arith, length-append (prefix v s (length payload) ++ payload) (0 ∷ []), length-append (prefix v s (length payload)) payload, length-prefix v s (length payload))

pub framed_size : (bytes : List ℕ) (v : ℕ) (s : Bool) (payload : List ℕ) → bytes ≡ framed v s payload → length bytes ≡ size_of v + length payload + 1
framed_size bytes v s payload is = ap length is ∙ length-framed v s payload

-- a batch that was framed carries its payload
pub payload_framed : (v : ℕ) (s : Bool) (payload : List ℕ) → payload_in v (framed v s payload) ≡ payload
payload_framed v s payload =
    let behind : drop (size_of v) (framed v s payload) ≡ payload ++ 0 ∷ []
    = ap (λ (l : List ℕ). drop (size_of v) l) (append_assoc (prefix v s (length payload)) payload (0 ∷ []))
    ∙ drop_at (prefix v s (length payload)) (payload ++ 0 ∷ []) (size_of v) (length-prefix v s (length payload)) in
    ap (λ (l : List ℕ). take (length (framed v s payload) - size_of v - 1) l) behind
    ∙ take_at payload (0 ∷ []) (length (framed v s payload) - size_of v - 1) (omega (arith, length-framed v s payload))

-- a payload that a version allows has a length that it can state
below_by : (one : Bool) (n : ℕ) → n ≤ (if one then 2 ^ 30 else 2 ^ 31) → n < (if one then 2 ^ 32 else 2 ^ 64)
below_by true n le = omega arith
below_by false n le = omega arith

pub below_bound : (v n : ℕ) → n ≤ most_of v → n < length_bound v
below_bound v n le = below_by (v == 1) n le

-- ---- an open gate and a whole batch
module _ (v g place at : ℕ) (s : Bool) (payload more : List ℕ) (kind : s ≡ is_snapshot_place g place) (fits : length payload < length_bound v) where
  abbrev n : ℕ
  n = length payload

  abbrev bytes : List ℕ
  bytes = prefix v s n ++ (payload ++ more)

  states : stated v bytes ≡ n
  states = stated-prefix v s n (payload ++ more) fits

  behind_prefix : drop (size_of v) bytes ≡ payload ++ more
  behind_prefix = drop_at (prefix v s n) (payload ++ more) (size_of v) (length-prefix v s n)

  taken : take (stated v bytes) (drop (size_of v) bytes) ≡ payload
  taken = (λ i. take (states i) (behind_prefix i)) ∙ take_at payload more n refl

  whole : size_of v + stated v bytes ≡ size_of v + n
  whole = ap (λ (k : ℕ). size_of v + k) states

  behind : drop (size_of v + stated v bytes) bytes ≡ more
  behind = ap (λ (k : ℕ). drop k bytes) whole ∙ sym (drop-drop n (size_of v) bytes) ∙ ap (λ (l : List ℕ). drop n l) behind_prefix ∙ drop_at payload more n refl

  goes_behind : batches_from v g (place + 1) (at + 1) (size_of v + stated v bytes) bytes ≡ batches_from v g (place + 1) (at + 1 + (size_of v + n)) 0 more
  goes_behind =
      skip_over v g bytes (place + 1) (at + 1) (size_of v + stated v bytes) (omega (arith, whole, length-append (prefix v s n) (payload ++ more), length-append payload more, length-prefix v s n))
      ∙ (λ i. batches_from v g (place + 1) (at + 1 + whole i) 0 (behind i))

  -- the batch counts where the gate before it is open
  pub batch_then : (gate : ℕ) → (gate == 1) ≡ true
      → batches_from v g place at 0 (gate ∷ bytes) ≡ and_then_batch (at + 1 + size_of v, payload) (batches_from v g (place + 1) (at + 1 + (size_of v + n)) 0 more)
  batch_then gate is =
      reads_open v g place at gate bytes is
      ∙ ap (λ (w : Option ℕ). unless_wrong w (at + 1) (and_then_batch (at + 1 + size_of v, take (stated v bytes) (drop (size_of v) bytes)) (batches_from v g (place + 1) (at + 1) (size_of v + stated v bytes) bytes)))
      (right-prefix v g place s n (payload ++ more) kind)
      ∙ (λ i. and_then_batch (at + 1 + size_of v, taken i) (goes_behind i))

-- with a gate behind it that is not open
pub one_batch : (v g place at : ℕ) (s : Bool) (payload rest : List ℕ) → s ≡ is_snapshot_place g place → length payload < length_bound v → (gate : ℕ) → (gate == 1) ≡ true
    → batches_from v g place at 0 (gate ∷ (framed v s payload ++ rest)) ≡ Ok ((at + 1 + size_of v, payload) ∷ [])
one_batch v g place at s payload rest kind fits gate is =
    ap (λ (l : List ℕ). batches_from v g place at 0 (gate ∷ l))
    (append_assoc (prefix v s (length payload) ++ payload) (0 ∷ []) rest ∙ append_assoc (prefix v s (length payload)) payload (0 ∷ rest))
    ∙ batch_then v g place at s payload (0 ∷ rest) kind fits gate is

-- ---- a journal that was spelled
spelled_from : (v g place at gate : ℕ) (ps : List (List ℕ)) (rest : List ℕ) → AllStated v ps → (gate == 1) ≡ false
    → batches_from v g place at 0 (gated_from v g place ps ++ gate ∷ rest) ≡ Ok (placed_from v at ps)
spelled_from v g place at gate [] rest fit shut = reads_shut v g place at gate rest shut
spelled_from v g place at gate (p ∷ ps) rest fit shut =
    let s = is_snapshot_place g place in
    let behind = gated_from v g (place + 1) ps in
    ap (λ (l : List ℕ). batches_from v g place at 0 (1 ∷ l))
    (append_assoc (prefix v s (length p)) (p ++ behind) (gate ∷ rest) ∙ ap (λ (l : List ℕ). prefix v s (length p) ++ l) (append_assoc p behind (gate ∷ rest)))
    ∙ batch_then v g place at s p (behind ++ gate ∷ rest) refl fit.0 1 refl
    ∙ ap (and_then_batch (at + 1 + size_of v, p)) (spelled_from v g (place + 1) (at + 1 + (size_of v + length p)) gate ps rest fit.1 shut)

pub reads_spelled : (v g gate : ℕ) (ps : List (List ℕ)) (rest : List ℕ) → AllStated v ps → (gate == 1) ≡ false
    → batches_from v g 0 16 0 (gated_from v g 0 ps ++ gate ∷ rest) ≡ Ok (placed_from v 16 ps)
reads_spelled v g gate ps rest fit shut = spelled_from v g 0 16 gate ps rest fit shut

-- ---- the images of an append
module _ (image : List ℕ) (v g : ℕ) (bs : Placed) (is : journal_of image ≡ holds v g bs) where
  abbrev end : ℕ
  end = end_of bs

  -- what lies behind the gate plays no part
  pub kept : (other : List ℕ) → take (end + 1) other ≡ take (end + 1) image → journal_of other ≡ holds v g bs
  kept other same =
      let inside = end_inside image v g bs is in
      let long : end < length other = omega (arith, inside, ap length same, length-take (end + 1) other, length-take (end + 1) image) in
      let front : take end other ≡ take end image
      = sym (take-take end (end + 1) other (omega arith)) ∙ ap (λ (l : List ℕ). take end l) same ∙ take-take end (end + 1) image (omega arith) in
      let gate : get_or other end 0 ≡ get_or image end 0
      = sym (get_or-take (end + 1) other end 0 (omega arith)) ∙ ap (λ (l : List ℕ). get_or l end 0) same ∙ get_or-take (end + 1) image end 0 (omega arith) in
      let shut : (get_or other end 0 == 1) ≡ false = ap (λ (n : ℕ). n == 1) gate ∙ end_shut image v g bs is in
      goes_on image v g bs is other front long
      ∙ ap (λ (l : List ℕ). held_by v g (and_then_all bs (batches_from v g (length bs) end 0 l))) (drop_more other end 0 long)
      ∙ ap (λ (r : Outcome). held_by v g (and_then_all bs r)) (reads_shut v g (length bs) end (get_or other end 0) (drop (end + 1) other) shut)
      ∙ ap (held_by v g) (all_then_none bs)

  -- the image with a batch behind the gate
  module _ (s : Bool) (payload rest other : List ℕ) (gate : ℕ) (kind : s ≡ is_snapshot_place g (length bs)) (fits : length payload ≤ most_of v)
      (same : take end other ≡ take end image) (behind : drop end other ≡ gate ∷ (framed v s payload ++ rest)) where
    reads_gate : journal_of other ≡ held_by v g (and_then_all bs (batches_from v g (length bs) end 0 (gate ∷ (framed v s payload ++ rest))))
    reads_gate =
        goes_on image v g bs is other same (omega (arith, ap length behind, length-drop end other))
        ∙ ap (λ (l : List ℕ). held_by v g (and_then_all bs (batches_from v g (length bs) end 0 l))) behind

    pub opened : (gate == 1) ≡ true → journal_of other ≡ holds v g (bs ++ (end + 1 + size_of v, payload) ∷ [])
    opened open_gate =
        reads_gate ∙ ap (λ (r : Outcome). held_by v g (and_then_all bs r)) (one_batch v g (length bs) end s payload rest kind (below_bound v (length payload) fits) gate open_gate)
        ∙ ap (held_by v g) (all_then_one bs (end + 1 + size_of v, payload))

    -- whatever stands at the gate
    pub gated : (journal_of other ≡ holds v g bs) ⊎ (journal_of other ≡ holds v g (bs ++ (end + 1 + size_of v, payload) ∷ []))
    gated = elim (either (gate == 1)) [
      | inl open_gate ↦ inr (opened open_gate)
      | inr shut ↦ inl (reads_gate ∙ ap (λ (r : Outcome). held_by v g (and_then_all bs r)) (reads_shut v g (length bs) end gate (framed v s payload ++ rest) shut) ∙ ap (held_by v g) (all_then_none bs))
    ]
