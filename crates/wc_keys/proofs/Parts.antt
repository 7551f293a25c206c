-- The part of a list in order that passes a test.
use Rattle.std.proofs.Common.{◌≡◌, ℕ, zero, suc, ◌+◌, ◌<◌, ◌≤◌, Bool, true, false, cond, List, [], ◌∷◌, length, get_or, take, drop, inl, inr, refl, sym, ap, ◌∙◌, arith, length-drop}
use Rattle.std.specs.Prelude.{◌==◌, ◌&&◌, ◌⊎◌, filter}
use Rattle.std.specs.Ordering.{nat_cmp, is_lt}
use Rattle.std.specs.Cmp.Lexicographic.{slice_cmp}
use Rattle.std.specs.List.Sorted.{IsPartitionedBy}
use Rattle.std.specs.Str.{bytes_eq}
use Rattle.std.specs.declared.cmp.Ordering.TheVariants.{Less}
use Rattle.std.proofs.lemmas.Bool.{and_parts}
use Rattle.std.proofs.lemmas.Bool.Decides.{nat_tests}
use Rattle.std.proofs.lemmas.Map.Views.{any-filter_same}
use Rattle.std.proofs.lemmas.Slice.Eq.{bytes_eq-Decides}
use Rattle.wc_value.specs.Ascending.{before}
use Rattle.wc_value.proofs.Puts.{same_name}
use Rattle.wc_records.specs.Marked.{AllAfter, IsSorted}
use Rattle.wc_records.proofs.Parted.{front_is_filter}
use Rattle.wc_keys.specs.declared.entries.Sealed.{Sealed}
use Rattle.wc_keys.specs.Order.{earlier, is_seal, is_in, with_digest, NumbersAbove, NumbersAscend, IsDigestPlace, IsDigestRun}
use Rattle.wc_keys.specs.Laws.{PartsAreExact}
use Rattle.wc_keys.proofs.Orders.{follows, by_digest, by_number, before_differs, same_stays, in_order}
use Rattle.wc_keys.proofs.Sorting.{earlier_at}

-- ---- by places

-- what doesn't pass may be left out in front
drop_keeps : {T : Type 0} (test : T → Bool) (xs : List T) (low : ℕ) → ((k : ℕ) (d : T) → k < low → k < length xs → test (get_or xs k d) ≡ false) → filter test (drop low xs) ≡ filter test xs
drop_keeps test xs zero front = refl
drop_keeps test [] (suc low) front = refl
drop_keeps test (x ∷ xs) (suc low) front =
    drop_keeps test xs low (λ k d lt within. front (suc k) d (omega (arith, lt)) (omega (arith, within)))
    ∙ ap (λ (b : Bool). cond b (x ∷ filter test xs) (filter test xs)) (sym (front 0 x (omega arith) (omega arith)))

get_or-dropped : {T : Type 0} (xs : List T) (low k : ℕ) (d : T) → get_or (drop low xs) k d ≡ get_or xs (low + k) d
get_or-dropped xs zero k d = let n : 0 + k ≡ k = omega arith in ap (λ (m : ℕ). get_or xs m d) (sym n)
get_or-dropped [] (suc low) k d = let n : suc low + k ≡ suc (low + k) = omega arith in sym (ap (λ (m : ℕ). get_or [] m d) n ∙ nothing (suc (low + k))) ∙ nothing k
  where
    nothing : (m : ℕ) → get_or [] m d ≡ d
    nothing zero = refl
    nothing (suc m) = refl
get_or-dropped (x ∷ xs) (suc low) k d =
    let n : suc low + k ≡ suc (low + k) = omega arith in
    get_or-dropped xs low k d ∙ sym (ap (λ (m : ℕ). get_or (x ∷ xs) m d) n)

-- behind the place of a digest no digest comes before it
pub place_dropped : (digest : List ℕ) (seals : List Sealed) (low : ℕ) → IsDigestPlace digest seals low → IsDigestPlace digest (drop low seals) 0
place_dropped digest seals low p = record {
  within = omega arith;
  front = λ k s lt. absurd (omega (arith, lt));
  back = λ k s _ lt.
      ap (λ (t : Sealed). before t.digest digest) (get_or-dropped seals low k s) ∙ p.back (low + k) s (omega arith) (omega (arith, lt, length-drop low seals));
}

-- those with the digest come first
pub run_parted : (digest : List ℕ) (seals : List Sealed) → IsSorted earlier seals → IsDigestPlace digest seals 0 → IsPartitionedBy (λ s. bytes_eq s.digest digest) seals
run_parted digest seals h p i j e le lt is =
    elim (ordered i j le) [
      | inl same ↦ ap (λ (n : ℕ). bytes_eq (get_or seals n e).digest digest) same ∙ is
      | inr below ↦
          same_stays digest (get_or seals i e) (get_or seals j e) (earlier_at earlier in_order seals i j e h below lt) (p.back i e (omega arith) (omega (arith, below, lt))) is
    ]
  where
    ordered : (a b : ℕ) → a ≤ b → (a ≡ b) ⊎ (a < b)
    ordered a b le = grind arith

pub part_is_filter : (digest : List ℕ) (seals : List Sealed) (low n : ℕ) (rest : List Sealed) → rest ≡ drop low seals → IsDigestPlace digest seals low → IsDigestRun digest rest n
    → take n rest ≡ with_digest digest seals
part_is_filter digest seals low n rest e p run =
    front_is_filter (λ (s : Sealed). bytes_eq s.digest digest) rest n (λ k d lt within. run.front k d lt) (λ k d le lt. run.back k d le lt)
    ∙ ap (filter (λ (s : Sealed). bytes_eq s.digest digest)) e
    ∙ drop_keeps (λ (s : Sealed). bytes_eq s.digest digest) seals low (λ k d lt within. before_differs (get_or seals k d).digest digest (p.front k d lt))

-- ---- the part with one digest

below : (a b : ℕ) → nat_cmp a b ≡ Less → a < b
below a b h = grind (arith, nat_tests)

digest_falls : (x y : Sealed) → slice_cmp nat_cmp x.digest y.digest ≡ Less → x.digest ≡ y.digest → ⊥
digest_falls x y less same =
    let differs : bytes_eq x.digest y.digest ≡ false = before_differs x.digest y.digest (ap is_lt less) in
    let alike : bytes_eq x.digest y.digest ≡ true = (bytes_eq-Decides x.digest y.digest).1 same in
    cc

number_above : (x y : Sealed) (digest : List ℕ) → earlier x y ≡ true → x.digest ≡ digest → bytes_eq y.digest digest ≡ true → x.pid < y.pid
number_above x y digest lt one other =
    elim (follows x y lt) [
      | by_digest less ↦ absurd (digest_falls x y less (one ∙ sym (same_name y.digest digest other)))
      | by_number _ less ↦ below x.pid y.pid less
    ]

above : (digest : List ℕ) (x : Sealed) (seals : List Sealed) → AllAfter earlier x seals → IsSorted earlier seals → x.digest ≡ digest → NumbersAbove x.pid (with_digest digest seals)
above digest x [] after h is = tt
above digest x (y ∷ seals) after h is =
    told (bytes_eq y.digest digest) refl (λ same. above digest y seals h.0 h.1 same) (above digest x seals after.1 h.1 is)
  where
    told : (b : Bool) → bytes_eq y.digest digest ≡ b → (y.digest ≡ digest → NumbersAbove y.pid (with_digest digest seals)) → NumbersAbove x.pid (with_digest digest seals)
        → NumbersAbove x.pid (cond b (y ∷ with_digest digest seals) (with_digest digest seals))
    told true same rest _ = (number_above x y digest after.0 is same, rest (same_name y.digest digest same))
    told false _ _ rest = rest

part_ascends : (digest : List ℕ) (seals : List Sealed) → IsSorted earlier seals → NumbersAscend (with_digest digest seals)
part_ascends digest [] h = tt
part_ascends digest (x ∷ seals) h = told (bytes_eq x.digest digest) refl (part_ascends digest seals h.1)
  where
    told : (b : Bool) → bytes_eq x.digest digest ≡ b → NumbersAscend (with_digest digest seals) → NumbersAscend (cond b (x ∷ with_digest digest seals) (with_digest digest seals))
    told true same _ = above digest x seals h.0 h.1 (same_name x.digest digest same)
    told false _ rest = rest

pub in_part : (digest : List ℕ) (seals : List Sealed) (other : List ℕ) (pid : ℕ) → is_in other pid (with_digest digest seals) ≡ bytes_eq other digest && is_in other pid seals
in_part digest seals other pid =
    any-filter_same (is_seal other pid) (λ (s : Sealed). bytes_eq s.digest digest) (bytes_eq other digest)
    (λ s is. ap (λ (d : List ℕ). bytes_eq d digest) (same_name s.digest other (and_parts (bytes_eq s.digest other) (s.pid == pid) is).0)) seals

pub parts_are_exact : PartsAreExact
parts_are_exact digest_at seals digest h = record {
  ascending = part_ascends digest seals h.order;
  exact = λ other pid. in_part digest seals other pid ∙ ap (λ (b : Bool). bytes_eq other digest && b) (h.exact other pid);
}
