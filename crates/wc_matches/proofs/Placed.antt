-- Rows that stand one behind another in one list of numbers.
use Rattle.std.proofs.Common.{◌≡◌, ℕ, zero, suc, ◌+◌, ◌-◌, ◌<◌, ◌≤◌, List, [], ◌∷◌, ◌++◌, length, get_or, take, drop, refl, ap, ◌∙◌, arith}
use Rattle.std.proofs.lemmas.List.{length-append, take_all}
use Rattle.wc_matches.specs.declared.rows.Place.{Place}
use Rattle.wc_matches.specs.Places.{row_of, rows_of, AreInside}

pub rows_count : (numbers : List ℕ) (places : List Place) → length (rows_of numbers places) ≡ length places
rows_count numbers [] = refl
rows_count numbers (p ∷ ps) = ap suc (rows_count numbers ps)

pub row_is : (numbers : List ℕ) (places : List Place) (at : ℕ) (p : Place) → at < length places → get_or (rows_of numbers places) at [] ≡ row_of numbers (get_or places at p)
row_is numbers [] at p lt = absurd (omega (arith, lt))
row_is numbers (q ∷ ps) zero p lt = refl
row_is numbers (q ∷ ps) (suc at) p lt = row_is numbers ps at p (omega (arith, lt))

pub row_inside : (size : ℕ) (places : List Place) (at : ℕ) (p : Place) → AreInside size places → at < length places
    → ((get_or places at p).from ≤ (get_or places at p).to) × ((get_or places at p).to ≤ size)
row_inside size [] at p h lt = absurd (omega (arith, lt))
row_inside size (q ∷ ps) zero p h lt = (h.0, h.1)
row_inside size (q ∷ ps) (suc at) p h lt = row_inside size ps at p h.2 (omega (arith, lt))

-- ---- further numbers behind

take_longer : (k : ℕ) (numbers more : List ℕ) → k ≤ length numbers → take k (numbers ++ more) ≡ take k numbers
take_longer zero numbers more le = refl
take_longer (suc k) [] more le = absurd (omega (arith, le))
take_longer (suc k) (n ∷ ns) more le = ap (λ (xs : List ℕ). n ∷ xs) (take_longer k ns more (omega (arith, le)))

drop_longer : (k : ℕ) (numbers more : List ℕ) → k ≤ length numbers → drop k (numbers ++ more) ≡ drop k numbers ++ more
drop_longer zero numbers more le = refl
drop_longer (suc k) [] more le = absurd (omega (arith, le))
drop_longer (suc k) (n ∷ ns) more le = drop_longer k ns more (omega (arith, le))

drop_size : (k : ℕ) (numbers : List ℕ) → k ≤ length numbers → length (drop k numbers) + k ≡ length numbers
drop_size zero numbers le = omega arith
drop_size (suc k) [] le = absurd (omega (arith, le))
drop_size (suc k) (n ∷ ns) le = let e : length (drop k ns) + k ≡ length ns = drop_size k ns (omega (arith, le)) in omega (arith, e)

row_longer : (numbers more : List ℕ) (from to : ℕ) → from ≤ to → to ≤ length numbers → take (to - from) (drop from (numbers ++ more)) ≡ take (to - from) (drop from numbers)
row_longer numbers more from to le inside =
    let size : length (drop from numbers) + from ≡ length numbers = drop_size from numbers (omega (arith, le, inside)) in
    ap (take (to - from)) (drop_longer from numbers more (omega (arith, le, inside))) ∙ take_longer (to - from) (drop from numbers) more (omega (arith, le, inside, size))

pub rows_longer : (numbers more : List ℕ) (places : List Place) → AreInside (length numbers) places → rows_of (numbers ++ more) places ≡ rows_of numbers places
rows_longer numbers more [] h = refl
rows_longer numbers more (p ∷ ps) h =
    ap (λ (r : List ℕ). r ∷ rows_of (numbers ++ more) ps) (row_longer numbers more p.from p.to h.0 h.1)
    ∙ ap (λ (rs : List (List ℕ)). row_of numbers p ∷ rs) (rows_longer numbers more ps h.2)

pub inside_longer : (size more : ℕ) (places : List Place) → size ≤ more → AreInside size places → AreInside more places
inside_longer size more [] le h = tt
inside_longer size more (p ∷ ps) le h = (h.0, omega (arith, h.1, le), inside_longer size more ps le h.2)

-- ---- one row more

rows_push : (numbers : List ℕ) (places : List Place) (p : Place) → rows_of numbers (places ++ p ∷ []) ≡ rows_of numbers places ++ row_of numbers p ∷ []
rows_push numbers [] p = refl
rows_push numbers (q ∷ ps) p = ap (λ (rs : List (List ℕ)). row_of numbers q ∷ rs) (rows_push numbers ps p)

inside_push : (size : ℕ) (places : List Place) (p : Place) → AreInside size places → p.from ≤ p.to → p.to ≤ size → AreInside size (places ++ p ∷ [])
inside_push size [] p h le inside = (le, inside, tt)
inside_push size (q ∷ ps) p h le inside = (h.0, h.1, inside_push size ps p h.2 le inside)

behind_all : (numbers row : List ℕ) → take (length row) (drop (length numbers) (numbers ++ row)) ≡ row
behind_all [] row = take_all (length row) row (omega arith)
behind_all (n ∷ ns) row = behind_all ns row

pub rows_more : (numbers all row : List ℕ) (places : List Place) (p : Place) → AreInside (length numbers) places → all ≡ numbers ++ row → p.from ≡ length numbers → p.to ≡ length all
    → rows_of all (places ++ p ∷ []) ≡ rows_of numbers places ++ row ∷ []
rows_more numbers all row places p h is from to =
    rows_push all places p
    ∙ ap (λ (xs : List ℕ). rows_of xs places ++ row_of all p ∷ []) is
    ∙ ap (λ (rs : List (List ℕ)). rs ++ row_of all p ∷ []) (rows_longer numbers row places h)
    ∙ ap (λ (r : List ℕ). rows_of numbers places ++ r ∷ []) (last numbers all row p is from to)
  where
    last : (numbers all row : List ℕ) (p : Place) → all ≡ numbers ++ row → p.from ≡ length numbers → p.to ≡ length all → row_of all p ≡ row
    last numbers all row p is from to =
        let size : length all ≡ length numbers + length row = ap length is ∙ length-append numbers row in
        let wide : p.to - p.from ≡ length row = omega (arith, from, to, size) in
        ap (λ (k : ℕ). take k (drop p.from all)) wide ∙ ap (λ (k : ℕ). take (length row) (drop k all)) from
        ∙ ap (λ (xs : List ℕ). take (length row) (drop (length numbers) xs)) is ∙ behind_all numbers row

pub inside_more : (size all : ℕ) (places : List Place) (p : Place) → AreInside size places → size ≤ all → p.from ≤ p.to → p.to ≤ all → AreInside all (places ++ p ∷ [])
inside_more size all places p h le from to = inside_push all places p (inside_longer size all places le h) from to

-- ---- fewer rows

pub rows_taken : (numbers : List ℕ) (places : List Place) (count : ℕ) → rows_of numbers (take count places) ≡ take count (rows_of numbers places)
rows_taken numbers [] zero = refl
rows_taken numbers [] (suc count) = refl
rows_taken numbers (p ∷ ps) zero = refl
rows_taken numbers (p ∷ ps) (suc count) = ap (λ (rs : List (List ℕ)). row_of numbers p ∷ rs) (rows_taken numbers ps count)

pub inside_taken : (size : ℕ) (places : List Place) (count : ℕ) → AreInside size places → AreInside size (take count places)
inside_taken size [] zero h = tt
inside_taken size [] (suc count) h = tt
inside_taken size (p ∷ ps) zero h = tt
inside_taken size (p ∷ ps) (suc count) h = (h.0, h.1, inside_taken size ps count h.2)
