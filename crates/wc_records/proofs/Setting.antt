-- An index while one process is set.
use Rattle.std.proofs.Common.{◌≡◌, ℕ, zero, suc, ◌+◌, ◌<◌, ◌≤◌, Bool, true, false, cond, List, [], ◌∷◌, length, get_or, set, map, Option, Some, inl, inr, refl, sym, ap, ◌∙◌, subst, arith}
use Rattle.std.specs.Prelude.{nat_lt, slice_get, ◌==◌, ◌||◌, ◌&&◌, not}
use Rattle.std.proofs.lemmas.Bool.{cases_eq, eq-eqb, not_from_true}
use Rattle.std.proofs.lemmas.Option.{slice_get-get_or}
use Rattle.std.proofs.lemmas.List.{length-set, length-map, get_or-map, get_or_default, get_or-set_same, get_or-set_other}
use Rattle.std.proofs.lemmas.List.Sums.{sum_by-set, count_by-le-length}
use Rattle.wc_state.specs.declared.record.ProcessRecord.{ProcessRecord}
use Rattle.wc_records.specs.declared.change.SetProcess.{SetProcess}
use Rattle.wc_records.specs.declared.index.Index.{Index}
use Rattle.wc_records.specs.Records.{has_ended}
use Rattle.wc_records.specs.Changes as changes
use Rattle.wc_records.specs.Ascending.{AreAscending, is_numbered}
use Rattle.wc_records.specs.Marked.{IsSorted, marked}
use Rattle.wc_records.specs.Readiness.{waits_later, is_over, ended_at, is_ready, ready_at, sooner, awaits_of, awaits, IsAwaitedBy, live_in, AreDues}
use Rattle.wc_records.specs.Index.{passed_by, AreCounted, AreNotAbove, is_other, IsIndexOf, without_due, with_due}
use Rattle.wc_records.proofs.Halving.{number_read}
use Rattle.wc_records.proofs.Chosen.{chosen_sorted}
use Rattle.wc_records.proofs.Finding.{find_other, find_set, find_at}
use Rattle.wc_records.proofs.Counted.{counted_more, counted_room, counted_for, counted_after, all_passed, all_chosen, first_alike, first_apart, first_grows}
use Rattle.wc_records.proofs.DueMoments.{without_sorted, dues_after}

-- A record stands at a place, of a process that hasn't ended, and another one is put there for it.
pub record Sets (rs : List ProcessRecord) (i : ℕ) (r s : ProcessRecord) (x : Index) : Type 0 where
  pub ascending : AreAscending 0 rs
  pub within : i < length rs
  pub read : r ≡ get_or rs i r
  pub same : s.node ≡ r.node
  pub live : has_ended r.state ≡ false
  pub index : IsIndexOf rs x

pub numbered_within : (pid : ℕ) (rs : List ProcessRecord) (i : ℕ) → is_numbered pid (slice_get rs i) ≡ true → i < length rs
numbered_within pid [] i h = absurd (cc)
numbered_within pid (r ∷ rs) zero h = omega arith
numbered_within pid (r ∷ rs) (suc i) h = let more = numbered_within pid rs i h in omega (arith, more)

pub sets_so : (batch : ℕ) (change : SetProcess) (rs : List ProcessRecord) (i : ℕ) (r s : ProcessRecord) (x : Index) → AreAscending 0 rs
    → is_numbered change.pid (slice_get rs i) ≡ true → is_over (slice_get rs i) ≡ false → IsIndexOf rs x → r ≡ get_or rs i r → s ≡ changes.set batch change r
    → Sets rs i r s x
sets_so batch change rs i r s x up is live index read new =
    let lt = numbered_within change.pid rs i is in
    record {
      ascending = up;
      within = lt;
      read = read;
      same = ap (λ (q : ProcessRecord). q.node) new;
      live = ap (λ (q : ProcessRecord). has_ended q.state) read ∙ ap is_over (sym (slice_get-get_or rs i r lt)) ∙ live;
      index = index;
    }

-- the number of the process is the one that the change names
pub named : (change : SetProcess) (rs : List ProcessRecord) (i : ℕ) (r s : ProcessRecord) (x : Index) → Sets rs i r s x → is_numbered change.pid (slice_get rs i) ≡ true
    → s.node ≡ change.pid
named change rs i r s x h is = h.same ∙ number_read change.pid rs i r h.within h.read is

put_there : (rs : List ProcessRecord) (i : ℕ) (r s : ProcessRecord) (x : Index) → Sets rs i r s x → s ≡ get_or (set rs i s) i s
put_there rs i r s x h = sym (get_or-set_same rs i s s h.within)

-- whoever reads a place reads the same
pub same_read : (rs : List ProcessRecord) (i : ℕ) (q r : ProcessRecord) → i < length rs → q ≡ get_or rs i q → r ≡ get_or rs i r → q ≡ r
same_read rs i q r lt one other = one ∙ get_or_default rs i q r lt ∙ sym other

-- whoever reads the place reads what was put there
pub reads : (rs : List ProcessRecord) (i : ℕ) (r s q : ProcessRecord) (x : Index) → Sets rs i r s x → q ≡ get_or (set rs i s) i q → q ≡ s
reads rs i r s q x h read = read ∙ get_or-set_same rs i s q h.within

still_there : (rs : List ProcessRecord) (i : ℕ) (r s : ProcessRecord) (x : Index) → Sets rs i r s x → i < length (set rs i s)
still_there rs i r s x h = omega (arith, h.within, length-set rs i s)

pub still_ascending : (rs : List ProcessRecord) (i : ℕ) (r s : ProcessRecord) (x : Index) → Sets rs i r s x → AreAscending 0 (set rs i s)
still_ascending rs i r s x h = go 0 rs i h.ascending h.within (h.same ∙ ap (λ (q : ProcessRecord). q.node) h.read)
  where
    go : (low : ℕ) (qs : List ProcessRecord) (k : ℕ) → AreAscending low qs → k < length qs → s.node ≡ (get_or qs k r).node → AreAscending low (set qs k s)
    go low [] k up lt same = tt
    go low (q ∷ qs) zero up lt same = (subst (λ n. low < n) (sym same) up.0, subst (λ n. AreAscending n qs) (sym same) up.1)
    go low (q ∷ qs) (suc k) up lt same = (up.0, go q.node qs k up.1 (omega arith) same)

-- ---- due moments

pub sorted_dues : (rs : List ProcessRecord) (i : ℕ) (r s : ProcessRecord) (x : Index) → Sets rs i r s x → IsSorted sooner (without_due r x.later.items)
sorted_dues rs i r s x h = without_sorted r x.later.items h.index.later.order

pub dues_kept : (rs : List ProcessRecord) (i : ℕ) (r s : ProcessRecord) (x : Index) → Sets rs i r s x → AreDues (set rs i s) (with_due s (without_due r x.later.items))
dues_kept rs i r s x h = dues_after rs x.later.items i r s h.ascending h.index.later h.within h.read h.same

pub dues_short : (rs : List ProcessRecord) (i : ℕ) (r s : ProcessRecord) (x : Index) → Sets rs i r s x → length (with_due s (without_due r x.later.items)) ≤ length rs
dues_short rs i r s x h = let kept = dues_kept rs i r s x h in omega (arith, kept.count, count_by-le-length waits_later (set rs i s), length-set rs i s)

-- ---- what was counted before

pub passed_length : (rs : List ProcessRecord) (x : Index) → IsIndexOf rs x → length x.passed.items ≡ length rs
passed_length rs x index = ap length index.passed ∙ length-map rs (passed_by rs)

from_before : (sure : ℕ → Bool) (rs : List ProcessRecord) (i : ℕ) (r s : ProcessRecord) (x : Index) → Sets rs i r s x → sure r.node ≡ false
    → ((k : ℕ) (e : ProcessRecord) → k < length rs → (k ≡ i → ⊥) → sure (get_or rs k e).node ≡ true → passed_by (set rs i s) (get_or rs k e) ≡ passed_by rs (get_or rs k e))
    → AreCounted sure (set rs i s) x.passed.items x.at_once.items
from_before sure rs i r s x h unsure alike =
    let c = counted_after sure rs i r s r h.ascending h.within h.read h.same unsure alike in
    subst (λ o. AreCounted sure (set rs i s) x.passed.items o) (sym h.index.at_once)
    (subst (λ p. AreCounted sure (set rs i s) p (ready_at rs 0)) (sym h.index.passed) c)

pub marks_sorted : (rs : List ProcessRecord) (x : Index) → AreAscending 0 rs → IsIndexOf rs x → IsSorted nat_lt x.at_once.items
marks_sorted rs x up index = subst (λ xs. IsSorted nat_lt xs) (sym index.at_once) (chosen_sorted (is_ready rs 0) 0 rs up)

pub marks_short : (rs : List ProcessRecord) (i : ℕ) (r s : ProcessRecord) (x : Index) → Sets rs i r s x
    → length (marked nat_lt s.node (is_ready (set rs i s) 0 s) x.at_once.items) ≤ length rs
marks_short rs i r s x h =
    let c = from_before (λ n. false) rs i r s x h refl (λ k e lt ne is. absurd (cc)) in
    let short = counted_room (λ n. false) (set rs i s) x.passed.items x.at_once.items i s (still_ascending rs i r s x h) c (still_there rs i r s x h) (put_there rs i r s x h) in
    omega (arith, short, length-set rs i s)

-- ---- a process that hasn't ended then either

elsewhere : (rs : List ProcessRecord) (i : ℕ) (r s : ProcessRecord) (x : Index) → Sets rs i r s x → (n : ℕ) → (n ≡ s.node → ⊥) → ended_at (set rs i s) n ≡ ended_at rs n
elsewhere rs i r s x h n ne = ap is_over (find_other n rs i s r h.within (h.same ∙ ap (λ (q : ProcessRecord). q.node) h.read) ne)

over_before : (rs : List ProcessRecord) (i : ℕ) (r s : ProcessRecord) (x : Index) → Sets rs i r s x → ended_at rs s.node ≡ false
over_before rs i r s x h = ap (ended_at rs) h.same ∙ ap is_over (find_at 0 rs i r h.ascending h.within h.read) ∙ h.live

over_after : (rs : List ProcessRecord) (i : ℕ) (r s : ProcessRecord) (x : Index) → Sets rs i r s x → ended_at (set rs i s) s.node ≡ has_ended s.state
over_after rs i r s x h = ap is_over (find_set 0 rs i s r h.ascending h.within (h.same ∙ ap (λ (q : ProcessRecord). q.node) h.read))

still_live : (rs : List ProcessRecord) (i : ℕ) (r s : ProcessRecord) (x : Index) → Sets rs i r s x → has_ended s.state ≡ false → (n : ℕ) → ended_at (set rs i s) n ≡ ended_at rs n
still_live rs i r s x h live n = elim (cases_eq n s.node) [
  | inl here ↦ ap (ended_at (set rs i s)) here ∙ over_after rs i r s x h ∙ live ∙ sym (ap (ended_at rs) here ∙ over_before rs i r s x h)
  | inr other ↦ elsewhere rs i r s x h n other
]

not_or : (b : Bool) → (not b || b) ≡ true
not_or true = refl
not_or false = refl

abbrev pub counts_then : List ProcessRecord → ℕ → ProcessRecord → Index → List ℕ
counts_then rs i s x = set x.passed.items i (passed_by (set rs i s) s)

abbrev pub marks_then : List ProcessRecord → ℕ → ProcessRecord → Index → List ℕ
marks_then rs i s x = marked nat_lt s.node (is_ready (set rs i s) 0 s) x.at_once.items

counted_but_caller : (rs : List ProcessRecord) (i : ℕ) (r s : ProcessRecord) (x : Index) → Sets rs i r s x → has_ended s.state ≡ false
    → AreCounted (λ n. not (n == s.node) || (n == s.node)) (set rs i s) (counts_then rs i s x) (marks_then rs i s x)
counted_but_caller rs i r s x h live =
    counted_more (λ n. not (n == s.node)) (set rs i s) x.passed.items x.at_once.items i s (still_ascending rs i r s x h)
    (from_before (λ n. not (n == s.node)) rs i r s x h (not_from_true (r.node == s.node) (eq-eqb r.node s.node (sym h.same)))
    (λ k e lt ne is. first_alike rs (set rs i s) (awaits_of (get_or rs k e).part) (still_live rs i r s x h live)))
    (still_there rs i r s x h) (put_there rs i r s x h)

pub live_passed : (rs : List ProcessRecord) (i : ℕ) (r s : ProcessRecord) (x : Index) → Sets rs i r s x → has_ended s.state ≡ false
    → counts_then rs i s x ≡ map (passed_by (set rs i s)) (set rs i s)
live_passed rs i r s x h live =
    all_passed (λ n. not (n == s.node) || (n == s.node)) (set rs i s) (counts_then rs i s x) (marks_then rs i s x) (λ k d lt. not_or ((get_or (set rs i s) k d).node == s.node))
    (counted_but_caller rs i r s x h live)

pub live_chosen : (rs : List ProcessRecord) (i : ℕ) (r s : ProcessRecord) (x : Index) → Sets rs i r s x → has_ended s.state ≡ false
    → marks_then rs i s x ≡ ready_at (set rs i s) 0
live_chosen rs i r s x h live =
    all_chosen (λ n. not (n == s.node) || (n == s.node)) (set rs i s) (counts_then rs i s x) (marks_then rs i s x) (λ k d lt. not_or ((get_or (set rs i s) k d).node == s.node))
    (counted_but_caller rs i r s x h live)

-- ---- a process that ends

not_awaiting : (caller : Option ℕ) (n : ℕ) (b : Bool) → is_other caller n ≡ true → (b ≡ true → caller ≡ Some n) → b ≡ false
not_awaiting caller n false other h = refl
not_awaiting caller n true other h =
    absurd (let e : is_other caller n ≡ false = ap (λ o. is_other o n) (h refl) ∙ not_from_true (n == n) (eq-eqb n n refl) in cc)

both_left : (a b : Bool) → (a && not b) ≡ true → a ≡ true
both_left true b h = refl
both_left false b h = h

or_itself : (a b : Bool) → a ≡ true → ((a && not b) || b) ≡ true
or_itself a true h = by_left (a && false)
  where
    by_left : (c : Bool) → (c || true) ≡ true
    by_left true = refl
    by_left false = refl
or_itself true false h = refl
or_itself false false h = h

unsure_itself : (a b : Bool) → b ≡ true → (a && not b) ≡ false
unsure_itself true b h = not_from_true b h
unsure_itself false b h = refl

pub ended_counted : (caller : Option ℕ) (rs : List ProcessRecord) (i : ℕ) (r s : ProcessRecord) (x : Index) → Sets rs i r s x → IsAwaitedBy caller s.node rs
    → AreCounted (is_other caller) (set rs i s) (counts_then rs i s x) (marks_then rs i s x)
ended_counted caller rs i r s x h awaited =
    counted_for (λ n. (is_other caller n && not (n == s.node)) || (n == s.node)) (is_other caller) (set rs i s) (counts_then rs i s x) (marks_then rs i s x)
    (λ n is. or_itself (is_other caller n) (n == s.node) is)
    (counted_more (λ n. is_other caller n && not (n == s.node)) (set rs i s) x.passed.items x.at_once.items i s (still_ascending rs i r s x h)
    (from_before (λ n. is_other caller n && not (n == s.node)) rs i r s x h (unsure_itself (is_other caller r.node) (r.node == s.node) (eq-eqb r.node s.node (sym h.same)))
    (λ k e lt ne is. first_apart s.node rs (set rs i s) (awaits_of (get_or rs k e).part)
    (not_awaiting caller (get_or rs k e).node (awaits s.node (get_or rs k e)) (both_left (is_other caller (get_or rs k e).node) ((get_or rs k e).node == s.node) is) (awaited k e lt))
    (elsewhere rs i r s x h)))
    (still_there rs i r s x h) (put_there rs i r s x h))

more_ended : (rs : List ProcessRecord) (i : ℕ) (r s : ProcessRecord) (x : Index) → Sets rs i r s x → has_ended s.state ≡ true → (n : ℕ) → ended_at rs n ≡ true
    → ended_at (set rs i s) n ≡ true
more_ended rs i r s x h ends n is = elim (cases_eq n s.node) [
  | inl here ↦ ap (ended_at (set rs i s)) here ∙ over_after rs i r s x h ∙ ends
  | inr other ↦ elsewhere rs i r s x h n other ∙ is
]

pub ended_not_above : (rs : List ProcessRecord) (i : ℕ) (r s : ProcessRecord) (x : Index) → Sets rs i r s x → has_ended s.state ≡ true
    → AreNotAbove (set rs i s) (counts_then rs i s x)
ended_not_above rs i r s x h ends k d lt = elim (cases_eq k i) [
  | inl here ↦
      let e : get_or (counts_then rs i s x) k 0 ≡ passed_by (set rs i s) (get_or (set rs i s) k d)
      = ap (λ j. get_or (counts_then rs i s x) j 0) here
      ∙ get_or-set_same x.passed.items i (passed_by (set rs i s) s) 0 (omega (arith, h.within, passed_length rs x h.index))
      ∙ ap (passed_by (set rs i s)) (sym (ap (λ j. get_or (set rs i s) j d) here ∙ get_or-set_same rs i s d h.within)) in
      omega (arith, e)
  | inr other ↦
      let within : k < length rs = omega (arith, lt, length-set rs i s) in
      let old : get_or (counts_then rs i s x) k 0 ≡ passed_by rs (get_or rs k d)
      = get_or-set_other x.passed.items i k (passed_by (set rs i s) s) 0 other ∙ ap (λ p. get_or p k 0) h.index.passed ∙ get_or-map (passed_by rs) rs k d 0 within in
      let new : passed_by (set rs i s) (get_or (set rs i s) k d) ≡ passed_by (set rs i s) (get_or rs k d) = ap (passed_by (set rs i s)) (get_or-set_other rs i k s d other) in
      let grows = first_grows rs (set rs i s) (awaits_of (get_or rs k d).part) (more_ended rs i r s x h ends) in
      omega (arith, old, new, grows)
]

-- ---- how many live

lives : (b : Bool) → b ≡ false → ◌≡◌ {A = ℕ} (cond (not b) 1 0) 1
lives true h = absurd (cc)
lives false h = refl

ended_counts : (b : Bool) → b ≡ true → ◌≡◌ {A = ℕ} (cond (not b) 1 0) 0
ended_counts true h = refl
ended_counts false h = absurd (cc)

live_sum : (rs : List ProcessRecord) (i : ℕ) (r s : ProcessRecord) (x : Index) → Sets rs i r s x → live_in (set rs i s) + 1 ≡ live_in rs + cond (not (has_ended s.state)) 1 0
live_sum rs i r s x h =
    let sum = sum_by-set (λ (q : ProcessRecord). cond (not (has_ended q.state)) 1 0) rs i s r h.within in
    let old : ◌≡◌ {A = ℕ} (cond (not (has_ended (get_or rs i r).state)) 1 0) 1 = ap (λ (q : ProcessRecord). cond (not (has_ended q.state)) 1 0) (sym h.read) ∙ lives (has_ended r.state) h.live in
    omega (arith, sum, old)

pub as_many : (rs : List ProcessRecord) (i : ℕ) (r s : ProcessRecord) (x : Index) → Sets rs i r s x → has_ended s.state ≡ false → live_in (set rs i s) ≡ live_in rs
as_many rs i r s x h live = omega (arith, live_sum rs i r s x h, lives (has_ended s.state) live)

pub one_less : (rs : List ProcessRecord) (i : ℕ) (r s : ProcessRecord) (x : Index) → Sets rs i r s x → has_ended s.state ≡ true → live_in (set rs i s) + 1 ≡ live_in rs
one_less rs i r s x h ends = omega (arith, live_sum rs i r s x h, ended_counts (has_ended s.state) ends)
