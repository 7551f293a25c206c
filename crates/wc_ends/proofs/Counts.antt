-- Counts of the processes of a list.
use Rattle.std.proofs.Common.{◌≡◌, ℕ, suc, ◌+◌, ◌≤◌, ◌==◌, Bool, true, false, cond, List, [], ◌∷◌, ◌++◌, Some, count_by, refl, ap, ◌∙◌, arith}
use Rattle.std.specs.Prelude.{if◌then◌else◌}
use Rattle.std.proofs.lemmas.List.Sums.{sum_by-cons}
use Rattle.wc_state.specs.declared.record.ProcessRecord.{ProcessRecord}
use Rattle.wc_world.specs.Records.{at_process, find_record}

count_cons : {X : Type 0} (p : X → Bool) (x : X) (xs : List X) → count_by p (x ∷ xs) ≡ cond (p x) 1 0 + count_by p xs
count_cons p x xs = sum_by-cons (λ y. cond (p y) 1 0) x xs

one_le : (a b : Bool) → (a ≡ true → b ≡ true) → cond a 1 0 ≤ cond b 1 0
one_le true true h = omega arith
one_le true false h = absurd (let e : false ≡ true = h refl in cc e)
one_le false b h = omega arith

-- what has P has Q: so many at most
pub count_le : {X : Type 0} (p q : X → Bool) → ((x : X) → p x ≡ true → q x ≡ true) → (xs : List X) → count_by p xs ≤ count_by q xs
count_le p q h [] = omega arith
count_le p q h (x ∷ xs) =
    let a : count_by p (x ∷ xs) ≡ cond (p x) 1 0 + count_by p xs = count_cons p x xs in
    let b : count_by q (x ∷ xs) ≡ cond (q x) 1 0 + count_by q xs = count_cons q x xs in
    let here : cond (p x) 1 0 ≤ cond (q x) 1 0 = one_le (p x) (q x) (h x) in
    let rest : count_by p xs ≤ count_by q xs = count_le p q h xs in
    omega (arith, a, b, here, rest)

-- one more at the end that isn't counted
pub count_pushed : {X : Type 0} (p : X → Bool) (m : X) → p m ≡ false → (xs : List X) → count_by p (xs ++ m ∷ []) ≤ count_by p xs
count_pushed p m none [] =
    let a : count_by p (m ∷ []) ≡ cond (p m) 1 0 + count_by p [] = count_cons p m [] in
    let b : ◌≡◌ {A = ℕ} (cond (p m) 1 0) 0 = ap (λ (c : Bool). cond c 1 0) none in
    omega (arith, a, b)
count_pushed p m none (x ∷ xs) =
    let a : count_by p (x ∷ (xs ++ m ∷ [])) ≡ cond (p x) 1 0 + count_by p (xs ++ m ∷ []) = count_cons p x (xs ++ m ∷ []) in
    let b : count_by p (x ∷ xs) ≡ cond (p x) 1 0 + count_by p xs = count_cons p x xs in
    let rest : count_by p (xs ++ m ∷ []) ≤ count_by p xs = count_pushed p m none xs in
    omega (arith, a, b, rest)

-- one that is set anew and is counted was counted before
pub count_set : (p : ProcessRecord → Bool) (pid : ℕ) (f : ProcessRecord → ProcessRecord) → ((x : ProcessRecord) → p (f x) ≡ true → p x ≡ true) → (rs : List ProcessRecord)
    → count_by p (at_process pid f rs) ≤ count_by p rs
count_set p pid f h [] = omega arith
count_set p pid f h (x ∷ xs) =
    let y : ProcessRecord = if x.node == pid then f x else x in
    let a : count_by p (y ∷ at_process pid f xs) ≡ cond (p y) 1 0 + count_by p (at_process pid f xs) = count_cons p y (at_process pid f xs) in
    let b : count_by p (x ∷ xs) ≡ cond (p x) 1 0 + count_by p xs = count_cons p x xs in
    let here : cond (p y) 1 0 ≤ cond (p x) 1 0 = one (x.node == pid) in
    let rest : count_by p (at_process pid f xs) ≤ count_by p xs = count_set p pid f h xs in
    omega (arith, a, b, here, rest)
  where
    one : (b : Bool) → cond (p (if b then f x else x)) 1 0 ≤ cond (p x) 1 0
    one true = one_le (p (f x)) (p x) (h x)
    one false = omega arith

-- where one that is there is no longer counted, and no other is new, the count is lower
pub count_less : (p q : ProcessRecord → Bool) → ((x : ProcessRecord) → p x ≡ true → q x ≡ true) → (pid : ℕ) (rs : List ProcessRecord) (r : ProcessRecord)
    → find_record pid rs ≡ Some r → p r ≡ false → q r ≡ true → suc (count_by p rs) ≤ count_by q rs
count_less p q h pid [] r found misses counts = absurd (cc found)
count_less p q h pid (x ∷ xs) r found misses counts =
    let a : count_by p (x ∷ xs) ≡ cond (p x) 1 0 + count_by p xs = count_cons p x xs in
    let b : count_by q (x ∷ xs) ≡ cond (q x) 1 0 + count_by q xs = count_cons q x xs in
    let sum : suc (cond (p x) 1 0 + count_by p xs) ≤ cond (q x) 1 0 + count_by q xs = at (x.node == pid) found (λ is. count_less p q h pid xs r is misses counts) in
    omega (arith, a, b, sum)
  where
    at : (here : Bool) → (if here then Some x else find_record pid xs) ≡ Some r → (find_record pid xs ≡ Some r → suc (count_by p xs) ≤ count_by q xs)
        → suc (cond (p x) 1 0 + count_by p xs) ≤ cond (q x) 1 0 + count_by q xs
    at true is later =
        let same : x ≡ r = cc in
        let zero_is : ◌≡◌ {A = ℕ} (cond (p x) 1 0) 0 = ap (λ (c : Bool). cond c 1 0) (ap p same ∙ misses) in
        let one_is : ◌≡◌ {A = ℕ} (cond (q x) 1 0) 1 = ap (λ (c : Bool). cond c 1 0) (ap q same ∙ counts) in
        let rest : count_by p xs ≤ count_by q xs = count_le p q h xs in
        omega (arith, zero_is, one_is, rest)
    at false is later =
        let here : cond (p x) 1 0 ≤ cond (q x) 1 0 = one_le (p x) (q x) (h x) in
        let rest : suc (count_by p xs) ≤ count_by q xs = later is in
        omega (arith, here, rest)
