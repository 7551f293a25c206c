-- The first of some numbers in a round.
use Rattle.std.proofs.Common.{◌≡◌, ℕ, ◌<◌, ◌≤◌, Bool, true, false, cond, List, [], ◌∷◌, Option, Some, None, inl, inr, refl, sym, ap, ◌∙◌, subst, arith}
use Rattle.std.specs.Prelude.{if◌then◌else◌, ◌⊎◌, nat_lt, ◌==◌, ◌||◌}
use Rattle.std.specs.List.{list_any, find}
use Rattle.std.specs.Option.{option_or}
use Rattle.std.proofs.lemmas.Bool.{ltb-true, ltb-false, eq-eqb, eqb-true, or_cases, or_left, or_right, false≢true}
use Rattle.std.proofs.lemmas.Bool.Decides.{nat_tests}
use Rattle.wc_records.specs.Marked.{AllAfter, IsSorted}
use Rattle.wc_records.specs.Ready.{first_above}
use Rattle.wc_records.specs.Rounds.{comes_before, earlier, first_with}

-- ---- the round is in one line

not_itself : (last n : ℕ) → comes_before last n n ≡ false
not_itself last n = grind (arith, nat_tests)

one_line : (last m n : ℕ) → comes_before last m n ≡ false → comes_before last n m ≡ false → m ≡ n
one_line last m n one other = grind (arith, nat_tests)

not_behind : (last m n k : ℕ) → comes_before last m k ≡ false → comes_before last n k ≡ true → comes_before last m n ≡ false
not_behind last m n k isnt is = grind (arith, nat_tests)

above_first : (last m n : ℕ) → last < n → (last < m → n ≤ m) → comes_before last m n ≡ false
above_first last m n lt h = grind (arith, nat_tests)

least_first : (last m n : ℕ) → m ≤ last → n ≤ last → n ≤ m → comes_before last m n ≡ false
least_first last m n one other le = grind (arith, nat_tests)

-- ---- the first

-- The number is one of these, and none of these comes before it.
pub record IsFirst (last : ℕ) (there : ℕ → Bool) (n : ℕ) : Type 0 where
  pub is_there : there n ≡ true
  pub none_before : (m : ℕ) → there m ≡ true → comes_before last m n ≡ false

-- the first of these, where there is one
abbrev pub IsFirstOf : ℕ → (ℕ → Bool) → Option ℕ → Type 0
IsFirstOf last there None = (m : ℕ) → there m ≡ false
IsFirstOf last there (Some n) = IsFirst last there n

pub first_unique : (last : ℕ) (there : ℕ → Bool) (o p : Option ℕ) → IsFirstOf last there o → IsFirstOf last there p → o ≡ p
first_unique last there None None h g = refl
first_unique last there None (Some n) h g = absurd (false≢true (sym (h n) ∙ g.is_there))
first_unique last there (Some m) None h g = absurd (false≢true (sym (g m) ∙ h.is_there))
first_unique last there (Some m) (Some n) h g = ap Some (one_line last m n (g.none_before m h.is_there) (h.none_before n g.is_there))

pub first_like : (last : ℕ) (one other : ℕ → Bool) (o : Option ℕ) → ((n : ℕ) → one n ≡ other n) → IsFirstOf last one o → IsFirstOf last other o
first_like last one other None same h = λ m. sym (same m) ∙ h m
first_like last one other (Some n) same h = record {
  is_there = sym (same n) ∙ h.is_there;
  none_before = λ m is. h.none_before m (same m ∙ is);
}

-- ---- one more

first_more : (last : ℕ) (there : ℕ → Bool) (best : Option ℕ) (pid : ℕ) → IsFirstOf last there best → IsFirst last (λ n. there n || (pid == n)) (earlier last best pid)
first_more last there None pid h = record {
  is_there = or_right (there pid) (pid == pid) (eq-eqb pid pid refl);
  none_before = λ m is. by m (or_cases (there m) (pid == m) is);
}
  where
    by : (m : ℕ) → (there m ≡ true) ⊎ ((pid == m) ≡ true) → comes_before last m pid ≡ false
    by m (inl old) = absurd (false≢true (sym (h m) ∙ old))
    by m (inr same) = subst (λ (k : ℕ). comes_before last k pid ≡ false) (eqb-true pid m same) (not_itself last pid)
first_more last there (Some one) pid h = by_test (comes_before last pid one) refl
  where
    by_test : (b : Bool) → comes_before last pid one ≡ b → IsFirst last (λ n. there n || (pid == n)) (if b then pid else one)
    by_test true is = record {
      is_there = or_right (there pid) (pid == pid) (eq-eqb pid pid refl);
      none_before = λ m is_m. by m (or_cases (there m) (pid == m) is_m);
    }
      where
        by : (m : ℕ) → (there m ≡ true) ⊎ ((pid == m) ≡ true) → comes_before last m pid ≡ false
        by m (inl old) = not_behind last m pid one (h.none_before m old) is
        by m (inr same) = subst (λ (k : ℕ). comes_before last k pid ≡ false) (eqb-true pid m same) (not_itself last pid)
    by_test false isnt = record {
      is_there = or_left (there one) (pid == one) h.is_there;
      none_before = λ m is_m. by m (or_cases (there m) (pid == m) is_m);
    }
      where
        by : (m : ℕ) → (there m ≡ true) ⊎ ((pid == m) ≡ true) → comes_before last m one ≡ false
        by m (inl old) = h.none_before m old
        by m (inr same) = subst (λ (k : ℕ). comes_before last k one ≡ false) (eqb-true pid m same) isnt

or_none : (b : Bool) → b ≡ b || false
or_none true = refl
or_none false = refl

or_along : (a b c : Bool) → (a || b) || c ≡ a || (b || c)
or_along true b c = refl
or_along false b c = refl

pub first_with_is : (last : ℕ) (there : ℕ → Bool) (best : Option ℕ) (dues : List (ℕ × ℕ)) → IsFirstOf last there best
    → IsFirstOf last (λ n. there n || list_any (λ (d : ℕ × ℕ). d.1 == n) dues) (first_with last best dues)
first_with_is last there best [] h = first_like last there (λ n. there n || false) best (λ n. or_none (there n)) h
first_with_is last there best (d ∷ dues) h =
    first_like last (λ n. (there n || (d.1 == n)) || list_any (λ (e : ℕ × ℕ). e.1 == n) dues) (λ n. there n || list_any (λ (e : ℕ × ℕ). e.1 == n) (d ∷ dues))
    (first_with last (Some (earlier last best d.1)) dues) (λ n. or_along (there n) (d.1 == n) (list_any (λ (e : ℕ × ℕ). e.1 == n) dues))
    (first_with_is last (λ n. there n || (d.1 == n)) (Some (earlier last best d.1)) dues (first_more last there best d.1 h))

-- ---- ascending numbers

-- the number stands in the list
abbrev pub stands : ℕ → List ℕ → Bool
stands n xs = list_any (λ m. m == n) xs

pub all_above : (x m : ℕ) (xs : List ℕ) → AllAfter nat_lt x xs → stands m xs ≡ true → x < m
all_above x m [] h is = absurd (cc)
all_above x m (y ∷ ys) h is = by (or_cases (y == m) (stands m ys) is) (λ more. all_above x m ys h.1 more)
  where
    by : ((y == m) ≡ true) ⊎ (stands m ys ≡ true) → (stands m ys ≡ true → x < m) → x < m
    by (inl same) rest = omega (arith, eqb-true y m same, ltb-true x y h.0)
    by (inr more) rest = rest more

-- The number is the least of those above the last one.
record IsNext (last : ℕ) (xs : List ℕ) (n : ℕ) : Type 0 where
  is_there : stands n xs ≡ true
  above : last < n
  least : (m : ℕ) → stands m xs ≡ true → last < m → n ≤ m

abbrev IsNextOf : ℕ → List ℕ → Option ℕ → Type 0
IsNextOf last xs None = (m : ℕ) → stands m xs ≡ true → m ≤ last
IsNextOf last xs (Some n) = IsNext last xs n

next_of : (last : ℕ) (xs : List ℕ) → IsSorted nat_lt xs → IsNextOf last xs (find (nat_lt last) xs)
next_of last [] h = λ m is. absurd (cc)
next_of last (x ∷ xs) h = by_test (nat_lt last x) refl (find (nat_lt last) xs) (next_of last xs h.1)
  where
    by_test : (b : Bool) → nat_lt last x ≡ b → (o : Option ℕ) → IsNextOf last xs o → IsNextOf last (x ∷ xs) (cond b (Some x) o)
    by_test true is o more = record {
      is_there = or_left (x == x) (stands x xs) (eq-eqb x x refl);
      above = ltb-true last x is;
      least = λ m is_m lt. by m (or_cases (x == m) (stands m xs) is_m);
    }
      where
        by : (m : ℕ) → ((x == m) ≡ true) ⊎ (stands m xs ≡ true) → x ≤ m
        by m (inl same) = omega (arith, eqb-true x m same)
        by m (inr behind) = omega (arith, all_above x m xs h.0 behind)
    by_test false isnt None more = λ m is_m. by m (or_cases (x == m) (stands m xs) is_m)
      where
        by : (m : ℕ) → ((x == m) ≡ true) ⊎ (stands m xs ≡ true) → m ≤ last
        by m (inl same) = omega (arith, eqb-true x m same, ltb-false last x isnt)
        by m (inr behind) = more m behind
    by_test false isnt (Some n) more = record {
      is_there = or_right (x == n) (stands n xs) more.is_there;
      above = more.above;
      least = λ m is_m lt. by m lt (or_cases (x == m) (stands m xs) is_m);
    }
      where
        by : (m : ℕ) → last < m → ((x == m) ≡ true) ⊎ (stands m xs ≡ true) → n ≤ m
        by m lt (inl same) = absurd (omega (arith, eqb-true x m same, ltb-false last x isnt, lt))
        by m lt (inr behind) = more.least m behind lt

pub first_of_sorted : (last : ℕ) (xs : List ℕ) → IsSorted nat_lt xs → IsFirstOf last (λ n. stands n xs) (first_above last xs)
first_of_sorted last [] h = λ m. refl
first_of_sorted last (x ∷ xs) h = by (find (nat_lt last) (x ∷ xs)) (next_of last (x ∷ xs) h)
  where
    by : (o : Option ℕ) → IsNextOf last (x ∷ xs) o → IsFirstOf last (λ n. stands n (x ∷ xs)) (option_or o (Some x))
    by (Some n) next = record {
      is_there = next.is_there;
      none_before = λ m is. above_first last m n next.above (next.least m is);
    }
    by None none = record {
      is_there = or_left (x == x) (stands x xs) (eq-eqb x x refl);
      none_before = λ m is. least_first last m x (none m is) (none x (or_left (x == x) (stands x xs) (eq-eqb x x refl))) (from m (or_cases (x == m) (stands m xs) is));
    }
      where
        from : (m : ℕ) → ((x == m) ≡ true) ⊎ (stands m xs ≡ true) → x ≤ m
        from m (inl same) = omega (arith, eqb-true x m same)
        from m (inr behind) = omega (arith, all_above x m xs h.0 behind)
