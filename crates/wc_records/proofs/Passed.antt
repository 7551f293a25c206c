-- How many of the awaited processes have ended, from the first one on, and whether a process is ready by that.
use Rattle.std.proofs.Common.{◌≡◌, ℕ, zero, suc, ◌+◌, ◌<◌, ◌≤◌, Bool, true, false, List, [], ◌∷◌, length, get_or, inl, inr, refl, sym, ap, ◌∙◌, arith}
use Rattle.std.specs.Prelude.{if◌then◌else◌, not, ◌&&◌, ◌==◌}
use Rattle.std.specs.List.{list_all}
use Rattle.std.proofs.lemmas.Bool.{eq-eqb, ne_eqb, cases_eq}
use Rattle.wc_value.specs.declared.process.ProcessState.{ProcessState}
use Rattle.wc_value.specs.declared.process.ProcessState.TheVariants as state
use Rattle.wc_state.specs.declared.record.Await.{Await}
use Rattle.wc_state.specs.declared.record.Part.{Part}
use Rattle.wc_state.specs.declared.record.Part.TheVariants as part
use Rattle.wc_state.specs.declared.record.ProcessRecord.{ProcessRecord}
use Rattle.wc_records.specs.Readiness.{ended_at, is_through, may_go, is_ready, awaits_of, is_past, goes_on, is_ready_past}
use Rattle.wc_records.specs.Index.{ended_first, passed_by}

-- ---- the count

pub ended_within : (rs : List ProcessRecord) (pids : List Await) → ended_first rs pids ≤ length pids
ended_within rs [] = omega arith
ended_within rs (a ∷ pids) = by_test (ended_at rs a.pid) (ended_within rs pids)
  where
    by_test : (b : Bool) → ended_first rs pids ≤ length pids → (if b then suc (ended_first rs pids) else 0) ≤ suc (length pids)
    by_test true le = omega arith
    by_test false le = omega arith

pub ended_more : (rs : List ProcessRecord) (pids : List Await) (i : ℕ) (a : Await) → i ≤ ended_first rs pids → i < length pids → a ≡ get_or pids i a → ended_at rs a.pid ≡ true
    → i + 1 ≤ ended_first rs pids
ended_more rs [] i a le lt read is = absurd (omega (arith, lt))
ended_more rs (b ∷ bs) zero a le lt read is =
    let e : ended_at rs b.pid ≡ true = ap (λ (x : Await). ended_at rs x.pid) (sym read) ∙ is in
    let more : ended_first rs (b ∷ bs) ≡ suc (ended_first rs bs) = ap (λ (t : Bool). if t then suc (ended_first rs bs) else 0) e in
    omega (arith, more)
ended_more rs (b ∷ bs) (suc i) a le lt read is = by_test (ended_at rs b.pid) le (λ h. ended_more rs bs i a h (omega arith) read is)
  where
    by_test : (t : Bool) → suc i ≤ (if t then suc (ended_first rs bs) else 0) → (i ≤ ended_first rs bs → i + 1 ≤ ended_first rs bs)
        → suc i + 1 ≤ (if t then suc (ended_first rs bs) else 0)
    by_test true h more = let g = more (omega arith) in omega (arith, g)
    by_test false h more = absurd (omega (arith, h))

pub ended_stop : (rs : List ProcessRecord) (pids : List Await) (i : ℕ) (a : Await) → i ≤ ended_first rs pids → i < length pids → a ≡ get_or pids i a → ended_at rs a.pid ≡ false
    → i ≡ ended_first rs pids
ended_stop rs [] i a le lt read is = absurd (omega (arith, lt))
ended_stop rs (b ∷ bs) zero a le lt read is =
    let e : ended_at rs b.pid ≡ false = ap (λ (x : Await). ended_at rs x.pid) (sym read) ∙ is in
    sym (ap (λ (t : Bool). if t then suc (ended_first rs bs) else 0) e)
ended_stop rs (b ∷ bs) (suc i) a le lt read is = by_test (ended_at rs b.pid) le (λ h. ended_stop rs bs i a h (omega arith) read is)
  where
    by_test : (t : Bool) → suc i ≤ (if t then suc (ended_first rs bs) else 0) → (i ≤ ended_first rs bs → i ≡ ended_first rs bs)
        → suc i ≡ (if t then suc (ended_first rs bs) else 0)
    by_test true h more = ap suc (more (omega arith))
    by_test false h more = absurd (omega (arith, h))

-- ---- readiness by the count

all_ended : (rs : List ProcessRecord) (pids : List Await) → (ended_first rs pids == length pids) ≡ list_all (λ a. ended_at rs a.pid) pids
all_ended rs [] = refl
all_ended rs (a ∷ pids) = by_test (ended_at rs a.pid) (all_ended rs pids)
  where
    one_more : (m n : ℕ) → (suc m == suc n) ≡ (m == n)
    one_more m n = elim (cases_eq m n) [
      | inl same ↦ eq-eqb (suc m) (suc n) (ap suc same) ∙ sym (eq-eqb m n same)
      | inr other ↦ ne_eqb (suc m) (suc n) (λ e. other (omega (arith, e))) ∙ sym (ne_eqb m n other)
    ]

    by_test : (b : Bool) → (ended_first rs pids == length pids) ≡ list_all (λ x. ended_at rs x.pid) pids
        → ((if b then suc (ended_first rs pids) else 0) == suc (length pids)) ≡ (b && list_all (λ x. ended_at rs x.pid) pids)
    by_test true e = one_more (ended_first rs pids) (length pids) ∙ e
    by_test false e = ne_eqb 0 (suc (length pids)) (λ h. omega (arith, h))

past_is_through : (rs : List ProcessRecord) (now : ℕ) (p : Part) → is_past (ended_first rs (awaits_of p)) now p ≡ is_through rs now p
past_is_through rs now part.Fresh = refl
past_is_through rs now (part.Chain c) = all_ended rs c.awaiting
past_is_through rs now (part.Job j) = refl
past_is_through rs now part.Over = refl

goes_is_go : (rs : List ProcessRecord) (now : ℕ) (s : ProcessState) (p : Part) → goes_on (ended_first rs (awaits_of p)) now s p ≡ may_go rs now s p
goes_is_go rs now state.Created p = refl
goes_is_go rs now state.Running p = refl
goes_is_go rs now state.Waiting p = past_is_through rs now p
goes_is_go rs now (state.Finished n) p = refl
goes_is_go rs now (state.Excepted r) p = refl
goes_is_go rs now state.Killed p = refl

pub past_is_ready : (rs : List ProcessRecord) (now : ℕ) (r : ProcessRecord) → is_ready_past (passed_by rs r) now r ≡ is_ready rs now r
past_is_ready rs now r = ap (λ (b : Bool). not r.paused && b) (goes_is_go rs now r.state r.part)
