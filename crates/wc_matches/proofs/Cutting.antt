-- The first so many of one more: what is left of them, and whether there are further ones.
use Rattle.std.proofs.Common.{◌≡◌, ◌⊎◌, inl, inr, ⊎_elim, ◌<◌, ◌≤◌, ℕ, zero, suc, true, List, [], ◌∷◌, length, refl, subst, arith}
use Rattle.std.specs.Prelude.{take, nat_lt, ◌↔◌}
use Rattle.std.specs.List.{AllByRecursion}
use Rattle.std.proofs.lemmas.Bool.{ltb-true, lt-ltb}
use Rattle.wc_matches.specs.First.{ComesBefore, Ascend, IsAmong, AreFirst, HasMore}
use Rattle.wc_matches.proofs.Firsts.{never_itself, among_all, all_taken, ascend_taken, few_taken, taken_or_behind}

taken_of_more : (n : ℕ) (rows : List (List ℕ)) → length rows ≡ suc n → length (take n rows) ≡ n
taken_of_more zero rows e = let l : length (take 0 rows) ≤ 0 = few_taken 0 rows in omega (arith, l)
taken_of_more (suc n) [] e = absurd (omega (arith, e))
taken_of_more (suc n) (r ∷ rows) e = let l : length (take n rows) ≡ n = taken_of_more n rows (omega (arith, e)) in omega (arith, l)

pub first_less : (P : List ℕ → Type 0) (n : ℕ) (rows : List (List ℕ)) → AreFirst P (suc n) rows → AreFirst P n (take n rows)
first_less P n rows f = record {
  ascend = ascend_taken n rows f.ascend;
  each = all_taken P n rows f.each;
  few = few_taken n rows;
  others = λ row p. ⊎_elim
      (λ (among : IsAmong rows row). taken_or_behind n rows row f.ascend among)
      (λ full. inr (taken_of_more n rows full.0, all_taken (λ r. ComesBefore r row) n rows full.1)) (f.others row p);
}

-- a row that is one of more than are taken, and not of those that are taken
record Further (P : List ℕ → Type 0) (n : ℕ) (rows : List (List ℕ)) : Type 0 where
  row : List ℕ
  holds : P row
  among : IsAmong rows row
  apart : IsAmong (take n rows) row → ⊥

further : (P : List ℕ → Type 0) (n : ℕ) (rows : List (List ℕ)) → Ascend rows → AllByRecursion P rows → n < length rows → Further P n rows
further P zero [] a h l = absurd (omega (arith, l))
further P zero (r ∷ rows) a h l = record { row = r; holds = h.0; among = inl refl; apart = λ k. absurd k }
further P (suc n) [] a h l = absurd (omega (arith, l))
further P (suc n) (r ∷ rows) a h l =
    let t = further P n rows a.1 h.1 (omega (arith, l)) in
    record {
      row = t.row;
      holds = t.holds;
      among = inr t.among;
      apart = λ k. ⊎_elim (λ (same : r ≡ t.row). never_itself t.row (subst (λ (x : List ℕ). ComesBefore x t.row) same (among_all (ComesBefore r) rows t.row a.0 t.among)))
          (λ (later : IsAmong (take n rows) t.row). t.apart later) k;
    }

all_taken_among : (n : ℕ) (rows : List (List ℕ)) (row : List ℕ) → length rows ≤ n → IsAmong rows row → IsAmong (take n rows) row
all_taken_among n [] row l k = absurd k
all_taken_among zero (r ∷ rows) row l k = absurd (omega (arith, l))
all_taken_among (suc n) (r ∷ rows) row l (inl same) = inl same
all_taken_among (suc n) (r ∷ rows) row l (inr later) = inr (all_taken_among n rows row (omega (arith, l)) later)

-- there are further ones exactly where one more than are taken was found
pub more_is : (P : List ℕ → Type 0) (n : ℕ) (rows : List (List ℕ)) → AreFirst P (suc n) rows → (nat_lt n (length rows) ≡ true) ↔ HasMore P (take n rows)
more_is P n rows f = (
  λ t. let h = further P n rows f.ascend f.each (ltb-true n (length rows) t) in (h.row, h.holds, h.apart),
  λ h. lt-ltb n (length rows) (⊎_elim
      (λ (among : IsAmong rows h.0). not_few h.0 among h.2)
      (λ full. omega (arith, full.0)) (f.others h.0 h.1)),
)
  where
    not_few : (row : List ℕ) → IsAmong rows row → (IsAmong (take n rows) row → ⊥) → n < length rows
    not_few row among apart = elim (split n (length rows)) [ inl few ↦ absurd (apart (all_taken_among n rows row few among)) | inr many ↦ many ]
      where
        split : (m k : ℕ) → (k ≤ m) ⊎ (m < k)
        split zero zero = inl (omega arith)
        split zero (suc k) = inr (omega arith)
        split (suc m) zero = inl (omega arith)
        split (suc m) (suc k) = elim (split m k) [ inl le ↦ inl (omega (arith, le)) | inr lt ↦ inr (omega (arith, lt)) ]
