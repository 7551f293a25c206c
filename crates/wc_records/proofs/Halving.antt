-- Records found by halving.
use Rattle.std.proofs.Common.{◌≡◌, ℕ, zero, suc, ◌<◌, ◌≤◌, Bool, true, false, List, [], ◌∷◌, ◌++◌, length, get_or, set, Option, Some, None, inl, inr, refl, sym, ap, ◌∙◌, arith}
use Rattle.std.specs.Prelude.{if◌then◌else◌, ◌==◌, slice_get, All}
use Rattle.std.specs.List.Sorted.{IsNonDecreasingBy}
use Rattle.std.proofs.lemmas.Bool.{cases_eq, eq-eqb, ne_eqb, eqb-true}
use Rattle.std.proofs.lemmas.Option.{slice_get-get_or}
use Rattle.std.proofs.lemmas.List.Elements.{All-head, All-tail}
use Rattle.wc_state.specs.declared.record.ProcessRecord.{ProcessRecord}
use Rattle.wc_records.specs.Records.{find_record, at_process}
use Rattle.wc_records.specs.Ascending.{AreAscending, IsCut, is_numbered}

-- no record has a number up to the lower bound
pub absent : (pid low : ℕ) (rs : List ProcessRecord) → AreAscending low rs → pid ≤ low → find_record pid rs ≡ None
absent pid low [] up le = refl
absent pid low (r ∷ rs) up le =
    ap (λ (b : Bool). if b then Some r else find_record pid rs) (ne_eqb r.node pid (λ e. omega (arith, e, up.0))) ∙ absent pid r.node rs up.1 (omega (arith, up.0))

abbrev at_number : ℕ → Option ProcessRecord → Option ProcessRecord
at_number pid o = if is_numbered pid o then o else None

cut_tail : (pid : ℕ) (r : ProcessRecord) (rs : List ProcessRecord) (i : ℕ) → IsCut pid (r ∷ rs) (suc i) → IsCut pid rs i
cut_tail pid r rs i h = record {
  before = λ k d lt within. h.before (suc k) d (omega arith) (omega arith);
  behind = λ k d le within. h.behind (suc k) d (omega arith) (omega arith);
}

-- the record at the place, if it has the number, is the only one that has it
found_at_cut : (pid low : ℕ) (rs : List ProcessRecord) (i : ℕ) → AreAscending low rs → IsCut pid rs i → at_number pid (slice_get rs i) ≡ find_record pid rs
found_at_cut pid low [] zero up h = refl
found_at_cut pid low [] (suc i) up h = refl
found_at_cut pid low (r ∷ rs) zero up h =
    elim (cases_eq r.node pid) [
      | inl same ↦
          let is : (r.node == pid) ≡ true = eq-eqb r.node pid same in
          rw is refl
      | inr other ↦
          let is : (r.node == pid) ≡ false = ne_eqb r.node pid other in
          let not_here : pid ≤ r.node = h.behind 0 r (omega arith) (omega arith) in
          rw is (sym (absent pid r.node rs up.1 not_here))
    ]
found_at_cut pid low (r ∷ rs) (suc i) up h =
    let lt : r.node < pid = h.before 0 r (omega arith) (omega arith) in
    let is : (r.node == pid) ≡ false = ne_eqb r.node pid (λ e. omega (arith, e, lt)) in
    found_at_cut pid r.node rs i up.1 (cut_tail pid r rs i h) ∙ ap (λ (b : Bool). if b then Some r else find_record pid rs) (sym is)

pub found_there : (pid : ℕ) (rs : List ProcessRecord) (i : ℕ) (r : ProcessRecord) → AreAscending 0 rs → IsCut pid rs i → is_numbered pid (slice_get rs i) ≡ true
    → i < length rs → r ≡ get_or rs i r → Some r ≡ find_record pid rs
found_there pid rs i r up cut is lt read =
    ap (λ (x : ProcessRecord). Some x) read ∙ sym (slice_get-get_or rs i r lt)
    ∙ ap (λ (b : Bool). if b then slice_get rs i else None) (sym is) ∙ found_at_cut pid 0 rs i up cut

pub found_nowhere : (pid : ℕ) (rs : List ProcessRecord) (i : ℕ) → AreAscending 0 rs → IsCut pid rs i → is_numbered pid (slice_get rs i) ≡ false → None ≡ find_record pid rs
found_nowhere pid rs i up cut is = ap (λ (b : Bool). if b then slice_get rs i else None) (sym is) ∙ found_at_cut pid 0 rs i up cut

-- the record at the place, which has the number, is the one that is found
pub found_here : (pid : ℕ) (rs : List ProcessRecord) (i : ℕ) → AreAscending 0 rs → IsCut pid rs i → is_numbered pid (slice_get rs i) ≡ true → slice_get rs i ≡ find_record pid rs
found_here pid rs i up cut is = ap (λ (b : Bool). if b then slice_get rs i else None) (sym is) ∙ found_at_cut pid 0 rs i up cut

-- ---- one record changed

-- where no record has the number, nothing changes
none_changed : (pid : ℕ) (f : ProcessRecord → ProcessRecord) (rs : List ProcessRecord) → find_record pid rs ≡ None → rs ≡ at_process pid f rs
none_changed pid f [] h = refl
none_changed pid f (r ∷ rs) h = by_test (r.node == pid) h (λ more. none_changed pid f rs more)
  where
    by_test : (b : Bool) → (if b then Some r else find_record pid rs) ≡ None → (find_record pid rs ≡ None → rs ≡ at_process pid f rs)
        → r ∷ rs ≡ (if b then f r else r) ∷ at_process pid f rs
    by_test true e rest = absurd (cc)
    by_test false e rest = ap (λ qs. r ∷ qs) (rest e)

-- the record at the place, which has the number, is the only one that changes
changed_at_cut : (pid low : ℕ) (f : ProcessRecord → ProcessRecord) (rs : List ProcessRecord) (i : ℕ) (r : ProcessRecord) → AreAscending low rs
    → i < length rs → r ≡ get_or rs i r → r.node ≡ pid → set rs i (f r) ≡ at_process pid f rs
changed_at_cut pid low f [] i r up lt is same = absurd (omega (arith, lt))
changed_at_cut pid low f (q ∷ qs) zero r up lt is same =
    let here : (q.node == pid) ≡ true = eq-eqb q.node pid (ap (λ (x : ProcessRecord). x.node) (sym is) ∙ same) in
    rw here (λ i. f (is i) ∷ none_changed pid f qs (absent pid q.node qs up.1 (omega (arith, eqb-true q.node pid here))) i)
changed_at_cut pid low f (q ∷ qs) (suc i) r up lt is same =
    let more : q.node < r.node = above q.node qs i r up.1 (omega arith) is in
    let other : (q.node == pid) ≡ false = ne_eqb q.node pid (λ e. omega (arith, e, more, same)) in
    rw other (ap (λ xs. q ∷ xs) (changed_at_cut pid q.node f qs i r up.1 (omega arith) is same))
  where
    above : (low : ℕ) (qs : List ProcessRecord) (i : ℕ) (r : ProcessRecord) → AreAscending low qs → i < length qs → r ≡ get_or qs i r → low < r.node
    above low [] i r up lt is = absurd (omega (arith, lt))
    above low (x ∷ xs) zero r up lt is = let e : r.node ≡ x.node = ap (λ (y : ProcessRecord). y.node) is in omega (arith, e, up.0)
    above low (x ∷ xs) (suc i) r up lt is = let more = above x.node xs i r up.1 (omega arith) is in omega (arith, more, up.0)

pub number_read : (pid : ℕ) (rs : List ProcessRecord) (i : ℕ) (r : ProcessRecord) → i < length rs → r ≡ get_or rs i r → is_numbered pid (slice_get rs i) ≡ true → r.node ≡ pid
number_read pid rs i r lt read is =
    eqb-true r.node pid (ap (λ (x : ProcessRecord). x.node == pid) read ∙ ap (is_numbered pid) (sym (slice_get-get_or rs i r lt)) ∙ is)

pub changed_there : (pid : ℕ) (f : ProcessRecord → ProcessRecord) (rs : List ProcessRecord) (i : ℕ) (r s : ProcessRecord) → AreAscending 0 rs
    → is_numbered pid (slice_get rs i) ≡ true → i < length rs → r ≡ get_or rs i r → s ≡ f r → set rs i s ≡ at_process pid f rs
changed_there pid f rs i r s up is lt read new =
    ap (set rs i) new ∙ changed_at_cut pid 0 f rs i r up lt read (number_read pid rs i r lt read is)

pub changed_nowhere : (pid : ℕ) (f : ProcessRecord → ProcessRecord) (rs : List ProcessRecord) (i : ℕ) → AreAscending 0 rs → IsCut pid rs i
    → is_numbered pid (slice_get rs i) ≡ false → rs ≡ at_process pid f rs
changed_nowhere pid f rs i up cut is = none_changed pid f rs (sym (found_nowhere pid rs i up cut is))

-- ---- ascending numbers

pub ascending_at : (pid low : ℕ) (f : ProcessRecord → ProcessRecord) (rs : List ProcessRecord) → ((r : ProcessRecord) → (f r).node ≡ r.node) → AreAscending low rs
    → AreAscending low (at_process pid f rs)
ascending_at pid low f [] keeps up = tt
ascending_at pid low f (r ∷ rs) keeps up =
    let same : (if r.node == pid then f r else r).node ≡ r.node = kept_node (r.node == pid) in
    rw same (up.0, ascending_at pid r.node f rs keeps up.1)
  where
    kept_node : (b : Bool) → (if b then f r else r).node ≡ r.node
    kept_node true = keeps r
    kept_node false = refl

pub ascending_push : (low : ℕ) (rs : List ProcessRecord) (r : ProcessRecord) → low < r.node → All (λ q. q.node < r.node) rs → AreAscending low rs → AreAscending low (rs ++ r ∷ [])
ascending_push low [] r lt below up = (lt, tt)
ascending_push low (q ∷ qs) r lt below up =
    (up.0, ascending_push q.node qs r (All-head (λ x. x.node < r.node) q qs below) (All-tail (λ x. x.node < r.node) q qs below) up.1)

pub ascending_rises : (low : ℕ) (rs : List ProcessRecord) → AreAscending low rs → IsNonDecreasingBy (λ r. r.node) rs
ascending_rises low [] up zero j d le lt = absurd (omega (arith, lt))
ascending_rises low [] up (suc i) j d le lt = absurd (omega (arith, lt))
ascending_rises low (r ∷ rs) up zero zero d le lt = omega arith
ascending_rises low (r ∷ rs) up zero (suc j) d le lt = let more = all_above r.node rs up.1 j d (omega arith) in omega (arith, more)
  where
    all_above : (low : ℕ) (rs : List ProcessRecord) → AreAscending low rs → (j : ℕ) (d : ProcessRecord) → j < length rs → low < (get_or rs j d).node
    all_above low [] up j d lt = absurd (omega (arith, lt))
    all_above low (x ∷ xs) up zero d lt = up.0
    all_above low (x ∷ xs) up (suc j) d lt = let more = all_above x.node xs up.1 j d (omega arith) in omega (arith, more, up.0)
ascending_rises low (r ∷ rs) up (suc i) zero d le lt = absurd (omega (arith, le))
ascending_rises low (r ∷ rs) up (suc i) (suc j) d le lt = ascending_rises r.node rs up.1 i j d (omega arith) (omega arith)
