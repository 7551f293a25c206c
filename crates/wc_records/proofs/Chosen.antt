-- The numbers of the processes that pass a test, after one record is set.
use Rattle.std.proofs.Common.{◌≡◌, ℕ, zero, suc, ◌<◌, ◌≤◌, Bool, true, false, cond, List, [], ◌∷◌, length, get_or, set, map, refl, ap, ◌∙◌, arith}
use Rattle.std.specs.Prelude.{if◌then◌else◌, nat_lt, ◌==◌, filter}
use Rattle.std.proofs.lemmas.Bool.{lt-ltb, le-ltb, eq-eqb, ne_eqb, ltb-true}
use Rattle.std.proofs.lemmas.List.{length-map}
use Rattle.std.proofs.lemmas.List.Sums.{length-filter, count_by-le-length}
use Rattle.wc_state.specs.declared.record.ProcessRecord.{ProcessRecord}
use Rattle.wc_records.specs.Ascending.{AreAscending}
use Rattle.wc_records.specs.Marked.{AllAfter, IsSorted, if_wanted, marked}
use Rattle.wc_records.specs.Index.{chosen}

-- ---- order and length

chosen_above : (test : ProcessRecord → Bool) (low n : ℕ) (rs : List ProcessRecord) → AreAscending low rs → n ≤ low → AllAfter nat_lt n (chosen test rs)
chosen_above test low n [] up le = tt
chosen_above test low n (r ∷ rs) up le = by_test (test r) (chosen_above test r.node n rs up.1 (omega (arith, up.0)))
  where
    by_test : (b : Bool) → AllAfter nat_lt n (chosen test rs) → AllAfter nat_lt n (map (λ (q : ProcessRecord). q.node) (cond b (r ∷ filter test rs) (filter test rs)))
    by_test true h = (lt-ltb n r.node (omega (arith, up.0)), h)
    by_test false h = h

pub chosen_sorted : (test : ProcessRecord → Bool) (low : ℕ) (rs : List ProcessRecord) → AreAscending low rs → IsSorted nat_lt (chosen test rs)
chosen_sorted test low [] up = tt
chosen_sorted test low (r ∷ rs) up = by_test (test r) (chosen_sorted test r.node rs up.1)
  where
    by_test : (b : Bool) → IsSorted nat_lt (chosen test rs) → IsSorted nat_lt (map (λ (q : ProcessRecord). q.node) (cond b (r ∷ filter test rs) (filter test rs)))
    by_test true h = (chosen_above test r.node r.node rs up.1 (omega arith), h)
    by_test false h = h

pub chosen_short : (test : ProcessRecord → Bool) (rs : List ProcessRecord) → length (chosen test rs) ≤ length rs
chosen_short test rs = omega (arith, length-map (filter test rs) (λ (q : ProcessRecord). q.node), length-filter test rs, count_by-le-length test rs)

-- ---- tests that agree

pub chosen_same : (t u : ProcessRecord → Bool) (rs : List ProcessRecord) → ((k : ℕ) (d : ProcessRecord) → k < length rs → t (get_or rs k d) ≡ u (get_or rs k d))
    → chosen t rs ≡ chosen u rs
chosen_same t u [] h = refl
chosen_same t u (r ∷ rs) h =
    let first : t r ≡ u r = h 0 r (omega arith) in
    let rest = chosen_same t u rs (λ k d lt. h (suc k) d (omega arith)) in
    ap (λ (b : Bool). map (λ (q : ProcessRecord). q.node) (cond b (r ∷ filter t rs) (filter t rs))) first ∙ by_test (u r) rest
  where
    by_test : (b : Bool) → chosen t rs ≡ chosen u rs
        → map (λ (q : ProcessRecord). q.node) (cond b (r ∷ filter t rs) (filter t rs)) ≡ map (λ (q : ProcessRecord). q.node) (cond b (r ∷ filter u rs) (filter u rs))
    by_test true e = ap (λ xs. r.node ∷ xs) e
    by_test false e = e

-- the test with an answer of its own for one number
abbrev pub answers : ℕ → Bool → (ProcessRecord → Bool) → ProcessRecord → Bool
answers pid b test q = if q.node == pid then b else test q

same_above : (pid : ℕ) (b : Bool) (test : ProcessRecord → Bool) (low : ℕ) (rs : List ProcessRecord) → AreAscending low rs → pid ≤ low
    → chosen test rs ≡ chosen (answers pid b test) rs
same_above pid b test low [] up le = refl
same_above pid b test low (r ∷ rs) up le =
    let other : (r.node == pid) ≡ false = ne_eqb r.node pid (λ e. omega (arith, e, up.0)) in
    let rest = same_above pid b test r.node rs up.1 (omega (arith, up.0)) in
    rw other (by_test (test r) rest)
  where
    by_test : (c : Bool) → chosen test rs ≡ chosen (answers pid b test) rs
        → map (λ (q : ProcessRecord). q.node) (cond c (r ∷ filter test rs) (filter test rs))
        ≡ map (λ (q : ProcessRecord). q.node) (cond c (r ∷ filter (answers pid b test) rs) (filter (answers pid b test) rs))
    by_test true e = ap (λ xs. r.node ∷ xs) e
    by_test false e = e

-- ---- one record set

marked_front : (n : ℕ) (b : Bool) (xs : List ℕ) → AllAfter nat_lt n xs → marked nat_lt n b xs ≡ if_wanted n b xs
marked_front n b [] h = refl
marked_front n b (x ∷ xs) h =
    let lt = ltb-true n x h.0 in
    let behind : nat_lt x n ≡ false = le-ltb x n (omega (arith, lt)) in
    rw (behind, h.0) refl

pub above_at : (low : ℕ) (qs : List ProcessRecord) (i : ℕ) (d : ProcessRecord) → AreAscending low qs → i < length qs → low < (get_or qs i d).node
above_at low [] i d up lt = absurd (omega (arith, lt))
above_at low (x ∷ xs) zero d up lt = up.0
above_at low (x ∷ xs) (suc i) d up lt = let more = above_at x.node xs i d up.1 (omega arith) in omega (arith, more, up.0)

pub chosen_marked : (test : ProcessRecord → Bool) (b : Bool) (low : ℕ) (rs : List ProcessRecord) (i : ℕ) (r d : ProcessRecord) → AreAscending low rs
    → i < length rs → r.node ≡ (get_or rs i d).node → marked nat_lt r.node b (chosen test rs) ≡ chosen (answers r.node b test) (set rs i r)
chosen_marked test b low [] i r d up lt same = absurd (omega (arith, lt))
chosen_marked test b low (q ∷ qs) zero r d up lt same =
    let here : (r.node == r.node) ≡ true = eq-eqb r.node r.node refl in
    let le : r.node ≤ q.node = omega (arith, same) in
    rw here (by_test (test q) le (same_above r.node b test q.node qs up.1 le) ∙ by_wanted b)
  where
    one : r.node ≡ q.node → nat_lt q.node r.node ≡ false
    one e = le-ltb q.node r.node (omega (arith, e))

    other : r.node ≡ q.node → nat_lt r.node q.node ≡ false
    other e = le-ltb r.node q.node (omega (arith, e))

    by_test : (c : Bool) → r.node ≤ q.node → chosen test qs ≡ chosen (answers r.node b test) qs
        → marked nat_lt r.node b (map (λ (x : ProcessRecord). x.node) (cond c (q ∷ filter test qs) (filter test qs))) ≡ if_wanted r.node b (chosen (answers r.node b test) qs)
    by_test true le e = rw (one same, other same) (ap (λ xs. if_wanted r.node b xs) e)
    by_test false le e = marked_front r.node b (chosen test qs) (chosen_above test q.node r.node qs up.1 le) ∙ ap (λ xs. if_wanted r.node b xs) e

    by_wanted : (c : Bool) → if_wanted r.node c (chosen (answers r.node b test) qs)
        ≡ map (λ (x : ProcessRecord). x.node) (cond c (r ∷ filter (answers r.node b test) qs) (filter (answers r.node b test) qs))
    by_wanted true = refl
    by_wanted false = refl
chosen_marked test b low (q ∷ qs) (suc i) r d up lt same =
    let more : q.node < r.node = (let h = above_at q.node qs i d up.1 (omega arith) in omega (arith, h, same)) in
    let other : (q.node == r.node) ≡ false = ne_eqb q.node r.node (λ e. omega (arith, e, more)) in
    rw other (by_test (test q) more (chosen_marked test b q.node qs i r d up.1 (omega arith) same))
  where
    by_test : (c : Bool) → q.node < r.node → marked nat_lt r.node b (chosen test qs) ≡ chosen (answers r.node b test) (set qs i r)
        → marked nat_lt r.node b (map (λ (x : ProcessRecord). x.node) (cond c (q ∷ filter test qs) (filter test qs)))
        ≡ map (λ (x : ProcessRecord). x.node) (cond c (q ∷ filter (answers r.node b test) (set qs i r)) (filter (answers r.node b test) (set qs i r)))
    by_test true h e = rw (lt-ltb q.node r.node h) (ap (λ xs. q.node ∷ xs) e)
    by_test false h e = e

-- ---- places and numbers

-- different places have different numbers
pub apart : (low : ℕ) (rs : List ProcessRecord) (i j : ℕ) (d e : ProcessRecord) → AreAscending low rs → i < length rs → j < length rs
    → (get_or rs i d).node ≡ (get_or rs j e).node → i ≡ j
apart low [] i j d e up lt within same = absurd (omega (arith, lt))
apart low (r ∷ rs) zero zero d e up lt within same = refl
apart low (r ∷ rs) zero (suc j) d e up lt within same = absurd (let h = above_at r.node rs j e up.1 (omega arith) in omega (arith, h, same))
apart low (r ∷ rs) (suc i) zero d e up lt within same = absurd (let h = above_at r.node rs i d up.1 (omega arith) in omega (arith, h, same))
apart low (r ∷ rs) (suc i) (suc j) d e up lt within same = ap suc (apart r.node rs i j d e up.1 (omega arith) (omega arith) same)

pub mapped_all : (g : ProcessRecord → ℕ) (rs : List ProcessRecord) (xs : List ℕ) → length xs ≡ length rs
    → ((k : ℕ) (d : ProcessRecord) → k < length rs → get_or xs k 0 ≡ g (get_or rs k d)) → xs ≡ map g rs
mapped_all g [] [] n h = refl
mapped_all g [] (x ∷ xs) n h = absurd (omega (arith, n))
mapped_all g (r ∷ rs) [] n h = absurd (omega (arith, n))
mapped_all g (r ∷ rs) (x ∷ xs) n h =
    let first : x ≡ g r = h 0 r (omega arith) in
    let rest = mapped_all g rs xs (omega (arith, n)) (λ k d lt. h (suc k) d (omega arith)) in
    λ i. first i ∷ rest i
