-- What is counted and marked of records while one of them is set.
use Rattle.std.proofs.Common.{◌≡◌, ℕ, suc, ◌<◌, ◌≤◌, Bool, true, false, List, [], ◌∷◌, length, get_or, set, map, Option, Some, None, inl, inr, refl, sym, ap, ◌∙◌, subst, arith}
use Rattle.std.proofs.lemmas.Option.{slice_get-get_or}
use Rattle.std.specs.Prelude.{if◌then◌else◌, ◌⊎◌, slice_get, nat_lt, ◌==◌, ◌||◌, not}
use Rattle.std.specs.List.{list_any}
use Rattle.std.proofs.lemmas.Bool.{cases_eq, cases_lt, cases_Bool, eq-eqb, ne_eqb, eqb-true, or_parts}
use Rattle.std.proofs.lemmas.List.{length-set, length-map, get_or-map, get_or_default, get_or-set_same, get_or-set_other}
use Rattle.wc_state.specs.declared.record.Await.{Await}
use Rattle.wc_state.specs.declared.record.ProcessRecord.{ProcessRecord}
use Rattle.wc_records.specs.Ascending.{AreAscending, IsCut, is_numbered}
use Rattle.wc_records.proofs.Halving.{ascending_rises}
use Rattle.wc_records.specs.Marked.{IsSorted, marked}
use Rattle.wc_records.specs.Readiness.{ended_at, is_ready, ready_at, is_ready_past}
use Rattle.wc_records.specs.Index.{ended_first, passed_by, chosen, AreCounted, is_other}
use Rattle.wc_records.proofs.Passed.{past_is_ready}
use Rattle.wc_records.proofs.Chosen.{answers, chosen_same, chosen_marked, chosen_short, chosen_sorted, apart, mapped_all}
use Rattle.wc_records.proofs.Finding.{set_same}

abbrev node : ProcessRecord → ℕ
node r = r.node

-- ---- one process counted anew

-- the record that stands at the place, whatever stands for none
read_at : (rs : List ProcessRecord) (i : ℕ) (r d : ProcessRecord) → i < length rs → r ≡ get_or rs i r → get_or rs i d ≡ r
read_at rs i r d lt read = get_or_default rs i d r lt ∙ sym read

either_one : (a b : Bool) → a || b ≡ true → b ≡ false → a ≡ true
either_one true b h e = refl
either_one false b h e = absurd (cc)

chosen_again : (test : ProcessRecord → Bool) (b : Bool) (rs : List ProcessRecord) (i : ℕ) (r : ProcessRecord) → AreAscending 0 rs → i < length rs → r ≡ get_or rs i r
    → marked nat_lt r.node b (chosen test rs) ≡ chosen (answers r.node b test) rs
chosen_again test b rs i r up lt read =
    chosen_marked test b 0 rs i r r up lt (ap node read) ∙ ap (chosen (answers r.node b test)) (set_same rs i r read)

pub counted_more : (sure : ℕ → Bool) (rs : List ProcessRecord) (p o : List ℕ) (i : ℕ) (r : ProcessRecord) → AreAscending 0 rs → AreCounted sure rs p o
    → i < length rs → r ≡ get_or rs i r
    → AreCounted (λ n. sure n || (n == r.node)) rs (set p i (passed_by rs r)) (marked nat_lt r.node (is_ready rs 0 r) o)
counted_more sure rs p o i r up c lt read = record {
  size = length-set p i (passed_by rs r) ∙ c.size;
  counts = count;
  test = answers r.node (is_ready rs 0 r) c.test;
  chosen = ap (λ xs. marked nat_lt r.node (is_ready rs 0 r) xs) c.chosen ∙ chosen_again c.test (is_ready rs 0 r) rs i r up lt read;
  marks = mark;
}
  where
    other : (k : ℕ) (d : ProcessRecord) → k < length rs → (k ≡ i → ⊥) → ((get_or rs k d).node == r.node) ≡ false
    other k d within ne = ne_eqb (get_or rs k d).node r.node (λ e. ne (apart 0 rs k i d r up within lt (e ∙ ap node read)))

    count : (k : ℕ) (d : ProcessRecord) → k < length rs → (sure (get_or rs k d).node || ((get_or rs k d).node == r.node)) ≡ true
        → get_or (set p i (passed_by rs r)) k 0 ≡ passed_by rs (get_or rs k d)
    count k d within is = elim (cases_eq k i) [
      | inl same ↦
          ap (λ j. get_or (set p i (passed_by rs r)) j 0) same ∙ get_or-set_same p i (passed_by rs r) 0 (omega (arith, c.size))
          ∙ ap (passed_by rs) (sym (ap (λ j. get_or rs j d) same ∙ read_at rs i r d lt read))
      | inr ne ↦
          get_or-set_other p i k (passed_by rs r) 0 ne ∙ c.counts k d within (either_one (sure (get_or rs k d).node) ((get_or rs k d).node == r.node) is (other k d within ne))
    ]

    mark : (k : ℕ) (d : ProcessRecord) → k < length rs → (sure (get_or rs k d).node || ((get_or rs k d).node == r.node)) ≡ true
        → answers r.node (is_ready rs 0 r) c.test (get_or rs k d) ≡ is_ready rs 0 (get_or rs k d)
    mark k d within is = elim (cases_eq k i) [
      | inl same ↦
          let e : get_or rs k d ≡ r = ap (λ j. get_or rs j d) same ∙ read_at rs i r d lt read in
          ap (λ (b : Bool). if b then is_ready rs 0 r else c.test (get_or rs k d)) (eq-eqb (get_or rs k d).node r.node (ap node e)) ∙ ap (is_ready rs 0) (sym e)
      | inr ne ↦
          ap (λ (b : Bool). if b then is_ready rs 0 r else c.test (get_or rs k d)) (other k d within ne)
          ∙ c.marks k d within (either_one (sure (get_or rs k d).node) ((get_or rs k d).node == r.node) is (other k d within ne))
    ]

pub counted_room : (sure : ℕ → Bool) (rs : List ProcessRecord) (p o : List ℕ) (i : ℕ) (r : ProcessRecord) → AreAscending 0 rs → AreCounted sure rs p o
    → i < length rs → r ≡ get_or rs i r → length (marked nat_lt r.node (is_ready rs 0 r) o) ≤ length rs
counted_room sure rs p o i r up c lt read =
    let e = ap (λ xs. marked nat_lt r.node (is_ready rs 0 r) xs) c.chosen ∙ chosen_again c.test (is_ready rs 0 r) rs i r up lt read in
    omega (arith, ap length e, chosen_short (answers r.node (is_ready rs 0 r) c.test) rs)

pub counted_sorted : (sure : ℕ → Bool) (rs : List ProcessRecord) (p o : List ℕ) → AreAscending 0 rs → AreCounted sure rs p o → IsSorted nat_lt o
counted_sorted sure rs p o up c = subst (λ xs. IsSorted nat_lt xs) (sym c.chosen) (chosen_sorted c.test 0 rs up)

pub counted_for : (sure less : ℕ → Bool) (rs : List ProcessRecord) (p o : List ℕ) → ((n : ℕ) → less n ≡ true → sure n ≡ true) → AreCounted sure rs p o → AreCounted less rs p o
counted_for sure less rs p o h c = record {
  size = c.size;
  counts = λ k d lt is. c.counts k d lt (h (get_or rs k d).node is);
  test = c.test;
  chosen = c.chosen;
  marks = λ k d lt is. c.marks k d lt (h (get_or rs k d).node is);
}

pub all_passed : (sure : ℕ → Bool) (rs : List ProcessRecord) (p o : List ℕ) → ((k : ℕ) (d : ProcessRecord) → k < length rs → sure (get_or rs k d).node ≡ true)
    → AreCounted sure rs p o → p ≡ map (passed_by rs) rs
all_passed sure rs p o all c = mapped_all (passed_by rs) rs p c.size (λ k d lt. c.counts k d lt (all k d lt))

pub all_chosen : (sure : ℕ → Bool) (rs : List ProcessRecord) (p o : List ℕ) → ((k : ℕ) (d : ProcessRecord) → k < length rs → sure (get_or rs k d).node ≡ true)
    → AreCounted sure rs p o → o ≡ ready_at rs 0
all_chosen sure rs p o all c = c.chosen ∙ chosen_same c.test (is_ready rs 0) rs (λ k d lt. c.marks k d lt (all k d lt))

-- ---- one record set

-- the count decides readiness
pub ready_alike : (rs qs : List ProcessRecord) (r : ProcessRecord) → passed_by qs r ≡ passed_by rs r → is_ready qs 0 r ≡ is_ready rs 0 r
ready_alike rs qs r e = sym (past_is_ready qs 0 r) ∙ ap (λ n. is_ready_past n 0 r) e ∙ past_is_ready rs 0 r

-- what was counted before a record was set is right of each other process that counts as before
pub counted_after : (sure : ℕ → Bool) (rs : List ProcessRecord) (i : ℕ) (r s d : ProcessRecord) → AreAscending 0 rs → i < length rs → r ≡ get_or rs i r
    → s.node ≡ r.node → sure r.node ≡ false
    → ((k : ℕ) (e : ProcessRecord) → k < length rs → (k ≡ i → ⊥) → sure (get_or rs k e).node ≡ true → passed_by (set rs i s) (get_or rs k e) ≡ passed_by rs (get_or rs k e))
    → AreCounted sure (set rs i s) (map (passed_by rs) rs) (ready_at rs 0)
counted_after sure rs i r s d up lt read same unsure alike = record {
  size = length-map rs (passed_by rs) ∙ sym (length-set rs i s);
  counts = count;
  test = answers s.node (is_ready rs 0 r) (is_ready rs 0);
  chosen = kept;
  marks = mark;
}
  where
    within : (k : ℕ) → k < length (set rs i s) → k < length rs
    within k h = omega (arith, h, length-set rs i s)

    elsewhere : (k : ℕ) (e : ProcessRecord) → sure (get_or (set rs i s) k e).node ≡ true → k ≡ i → ⊥
    elsewhere k e is at =
        let here : get_or (set rs i s) k e ≡ s = ap (λ j. get_or (set rs i s) j e) at ∙ get_or-set_same rs i s e lt in
        let not_sure : sure (get_or (set rs i s) k e).node ≡ false = ap sure (ap node here ∙ same) ∙ unsure in
        cc

    count : (k : ℕ) (e : ProcessRecord) → k < length (set rs i s) → sure (get_or (set rs i s) k e).node ≡ true
        → get_or (map (passed_by rs) rs) k 0 ≡ passed_by (set rs i s) (get_or (set rs i s) k e)
    count k e h is =
        let ne = elsewhere k e is in
        let there : get_or (set rs i s) k e ≡ get_or rs k e = get_or-set_other rs i k s e ne in
        get_or-map (passed_by rs) rs k e 0 (within k h)
        ∙ sym (alike k e (within k h) ne (ap (λ (x : ProcessRecord). sure x.node) (sym there) ∙ is))
        ∙ ap (passed_by (set rs i s)) (sym there)

    -- the process that is set keeps its mark for now
    again : chosen (is_ready rs 0) rs ≡ chosen (answers r.node (is_ready rs 0 r) (is_ready rs 0)) rs
    again = chosen_same (is_ready rs 0) (answers r.node (is_ready rs 0 r) (is_ready rs 0)) rs (λ k e h. by_number k e h (cases_Bool ((get_or rs k e).node == r.node)))
      where
        by_number : (k : ℕ) (e : ProcessRecord) → k < length rs → ((get_or rs k e).node == r.node ≡ true) ⊎ ((get_or rs k e).node == r.node ≡ false)
            → is_ready rs 0 (get_or rs k e) ≡ answers r.node (is_ready rs 0 r) (is_ready rs 0) (get_or rs k e)
        by_number k e h (inl is) =
            let at : k ≡ i = apart 0 rs k i e r up h lt (eqb-true (get_or rs k e).node r.node is ∙ ap node read) in
            let here : get_or rs k e ≡ r = ap (λ j. get_or rs j e) at ∙ read_at rs i r e lt read in
            ap (is_ready rs 0) here ∙ sym (ap (λ (b : Bool). if b then is_ready rs 0 r else is_ready rs 0 (get_or rs k e)) is)
        by_number k e h (inr is) = sym (ap (λ (b : Bool). if b then is_ready rs 0 r else is_ready rs 0 (get_or rs k e)) is)

    kept : ready_at rs 0 ≡ chosen (answers s.node (is_ready rs 0 r) (is_ready rs 0)) (set rs i s)
    kept =
        again ∙ sym (chosen_again (is_ready rs 0) (is_ready rs 0 r) rs i r up lt read)
        ∙ ap (λ n. marked nat_lt n (is_ready rs 0 r) (chosen (is_ready rs 0) rs)) (sym same)
        ∙ chosen_marked (is_ready rs 0) (is_ready rs 0 r) 0 rs i s r up lt (same ∙ ap node read)

    mark : (k : ℕ) (e : ProcessRecord) → k < length (set rs i s) → sure (get_or (set rs i s) k e).node ≡ true
        → answers s.node (is_ready rs 0 r) (is_ready rs 0) (get_or (set rs i s) k e) ≡ is_ready (set rs i s) 0 (get_or (set rs i s) k e)
    mark k e h is =
        let ne = elsewhere k e is in
        let there : get_or (set rs i s) k e ≡ get_or rs k e = get_or-set_other rs i k s e ne in
        let other : ((get_or (set rs i s) k e).node == s.node) ≡ false
        = ne_eqb (get_or (set rs i s) k e).node s.node (λ (x : (get_or (set rs i s) k e).node ≡ s.node). ne (apart 0 rs k i e r up (within k h) lt (sym (ap node there) ∙ x ∙ same ∙ ap node read))) in
        ap (λ (b : Bool). if b then is_ready rs 0 r else is_ready rs 0 (get_or (set rs i s) k e)) other
        ∙ ap (is_ready rs 0) there
        ∙ sym (ready_alike rs (set rs i s) (get_or rs k e) (alike k e (within k h) ne (ap (λ (x : ProcessRecord). sure x.node) (sym there) ∙ is)))
        ∙ ap (is_ready (set rs i s) 0) (sym there)

-- ---- what counts alike

pub first_alike : (rs qs : List ProcessRecord) (pids : List Await) → ((n : ℕ) → ended_at qs n ≡ ended_at rs n) → ended_first qs pids ≡ ended_first rs pids
first_alike rs qs [] h = refl
first_alike rs qs (a ∷ pids) h = λ i. if h a.pid i then suc (first_alike rs qs pids h i) else 0

pub first_apart : (pid : ℕ) (rs qs : List ProcessRecord) (pids : List Await) → list_any (λ (a : Await). a.pid == pid) pids ≡ false
    → ((n : ℕ) → (n ≡ pid → ⊥) → ended_at qs n ≡ ended_at rs n) → ended_first qs pids ≡ ended_first rs pids
first_apart pid rs qs [] none h = refl
first_apart pid rs qs (a ∷ pids) none h =
    let parts = or_parts (a.pid == pid) (list_any (λ (x : Await). x.pid == pid) pids) none in
    let one = h a.pid (λ e. let is = eq-eqb a.pid pid e in let isnt = parts.0 in cc) in
    let rest = first_apart pid rs qs pids parts.1 h in
    λ i. if one i then suc (rest i) else 0

pub first_grows : (rs qs : List ProcessRecord) (pids : List Await) → ((n : ℕ) → ended_at rs n ≡ true → ended_at qs n ≡ true) → ended_first rs pids ≤ ended_first qs pids
first_grows rs qs [] h = omega arith
first_grows rs qs (a ∷ pids) h = by_test (ended_at rs a.pid) refl (first_grows rs qs pids h)
  where
    by_test : (b : Bool) → ended_at rs a.pid ≡ b → ended_first rs pids ≤ ended_first qs pids
        → (if b then suc (ended_first rs pids) else 0) ≤ (if ended_at qs a.pid then suc (ended_first qs pids) else 0)
    by_test true is le = rw (h a.pid is) (omega arith)
    by_test false is le = omega arith

-- ---- the caller's number

pub everyone : (caller : Option ℕ) (pid m n : ℕ) → caller ≡ Some pid → m ≡ pid → (is_other caller n || (n == m)) ≡ true
everyone caller pid m n is same =
    ap (λ o. is_other o n || (n == m)) is ∙ ap (λ k. not (n == pid) || (n == k)) same ∙ one_of (n == pid)
  where
    one_of : (b : Bool) → (not b || b) ≡ true
    one_of true = refl
    one_of false = refl

pub others_alone : (caller : Option ℕ) (pid n : ℕ) → caller ≡ Some pid → (n ≡ pid → ⊥) → is_other caller n ≡ true
others_alone caller pid n is ne = ap (λ o. is_other o n) is ∙ ap not (ne_eqb n pid ne)

pub nobody_called : (caller : Option ℕ) (n : ℕ) → caller ≡ None → is_other caller n ≡ true
nobody_called caller n is = ap (λ o. is_other o n) is

-- where the place of a number isn't that of a record with it, no record has it
pub has_nobody : (pid : ℕ) (rs : List ProcessRecord) (i : ℕ) → AreAscending 0 rs → IsCut pid rs i → is_numbered pid (slice_get rs i) ≡ false
    → (k : ℕ) (d : ProcessRecord) → k < length rs → (get_or rs k d).node ≡ pid → ⊥
has_nobody pid rs i up cut isnt k d lt same = elim (cases_lt k i) [
  | inl before ↦ (let h = cut.before k d before lt in omega (arith, h, same))
  | inr behind ↦
      let first = cut.behind i d (omega arith) (omega arith) in
      let rises = ascending_rises 0 rs up i k d behind lt in
      let there : (get_or rs i d).node ≡ pid = omega (arith, first, rises, same) in
      let found : is_numbered pid (slice_get rs i) ≡ true = ap (is_numbered pid) (slice_get-get_or rs i d (omega arith)) ∙ eq-eqb (get_or rs i d).node pid there in
      cc
]
