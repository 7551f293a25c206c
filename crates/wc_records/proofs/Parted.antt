-- The front of a list in order, up to a bound.
use Rattle.std.proofs.Common.{◌≡◌, ℕ, zero, suc, ◌<◌, ◌≤◌, Bool, true, false, cond, List, [], ◌∷◌, length, get_or, take, refl, sym, ap, ◌∙◌, arith}
use Rattle.std.specs.Prelude.{nat_lt, nat_le, slice_get, filter}
use Rattle.std.specs.List.{find}
use Rattle.std.specs.List.Sorted.{IsPartitionedBy}
use Rattle.std.proofs.lemmas.Bool.{leb-true, lt-ltb, le-ltb, leb-false}
use Rattle.std.proofs.lemmas.Bool.Decides.{nat_tests}
use Rattle.std.proofs.lemmas.List.Folds.{find_at}
use Rattle.std.proofs.lemmas.List.Sums.{position_or_len_is}
use Rattle.wc_records.specs.Readiness.{sooner}
use Rattle.wc_records.specs.Marked.{IsSorted}
use Rattle.wc_records.proofs.Marks.{sorted_is_parted}
use Rattle.wc_records.specs.Orders.{numbers_in_order, dues_in_order}

pub front_is_filter : {T : Type 0} (p : T → Bool) (xs : List T) (at : ℕ) → ((k : ℕ) (d : T) → k < at → k < length xs → p (get_or xs k d) ≡ true)
    → ((k : ℕ) (d : T) → at ≤ k → k < length xs → p (get_or xs k d) ≡ false) → take at xs ≡ filter p xs
front_is_filter p [] zero front back = refl
front_is_filter p [] (suc at) front back = refl
front_is_filter {T} p (x ∷ xs) zero front back =
    front_is_filter p xs zero (λ k d lt within. absurd (omega (arith, lt))) (λ k d le lt. back (suc k) d (omega arith) (omega (arith, lt)))
    ∙ ap (λ (b : Bool). cond b (x ∷ filter p xs) (filter p xs)) (sym (back 0 x (omega arith) (omega arith)))
front_is_filter {T} p (x ∷ xs) (suc at) front back =
    ap (λ (ys : List T). x ∷ ys) (front_is_filter p xs at (λ k d lt within. front (suc k) d (omega (arith, lt)) (omega (arith, within))) (λ k d le lt. back (suc k) d (omega (arith, le)) (omega (arith, lt))))
    ∙ ap (λ (b : Bool). cond b (x ∷ filter p xs) (filter p xs)) (sym (front 0 x (omega arith) (omega arith)))

-- a due moment isn't after this one exactly where it comes before all that are
up_to : (now : ℕ) (d : ℕ × ℕ) → sooner d (suc now, 0) ≡ nat_le d.0 now
up_to now d = grind (arith, nat_tests)

pub dues_parted : (now : ℕ) (dues : List (ℕ × ℕ)) → IsSorted sooner dues → IsPartitionedBy (λ d. nat_le d.0 now) dues
dues_parted now dues h i j e le lt is =
    sym (up_to now (get_or dues i e)) ∙ sorted_is_parted sooner dues_in_order (suc now, 0) dues h i j e le lt (up_to now (get_or dues j e) ∙ is)

up_to_last : (last n : ℕ) → nat_lt n (suc last) ≡ nat_le n last
up_to_last last n = grind (arith, nat_tests)

pub numbers_parted : (last : ℕ) (ns : List ℕ) → IsSorted nat_lt ns → IsPartitionedBy (λ n. nat_le n last) ns
numbers_parted last ns h i j e le lt is =
    sym (up_to_last last (get_or ns i e)) ∙ sorted_is_parted nat_lt numbers_in_order (suc last) ns h i j e le lt (up_to_last last (get_or ns j e) ∙ is)

-- the first above the last one stands at the place behind those that aren't
pub found_above : (last : ℕ) (ns : List ℕ) (at : ℕ) → at ≤ length ns → ((k d : ℕ) → k < at → nat_le (get_or ns k d) last ≡ true)
    → ((k d : ℕ) → at ≤ k → k < length ns → nat_le (get_or ns k d) last ≡ false) → slice_get ns at ≡ find (nat_lt last) ns
found_above last ns at within front back =
    ap (slice_get ns)
    (sym (position_or_len_is (nat_lt last) ns at 0 within (λ k lt. le-ltb last (get_or ns k 0) (leb-true (get_or ns k 0) last (front k 0 lt)))
    (λ lt. lt-ltb last (get_or ns at 0) (leb-false (get_or ns at 0) last (back at 0 (omega arith) lt)))))
    ∙ sym (find_at (nat_lt last) ns)
