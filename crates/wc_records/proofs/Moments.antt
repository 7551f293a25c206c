-- The processes that are ready at a moment: those that are at moment 0, and those of the due moments up to it.
use Rattle.std.proofs.Common.{◌≡◌, ℕ, ◌≤◌, Bool, true, false, cond, List, [], ◌∷◌, map, Option, Some, None, inl, inr, refl, sym, ap, ◌∙◌, arith}
use Rattle.std.specs.Prelude.{if◌then◌else◌, ◌⊎◌, nat_lt, nat_le, ◌==◌, ◌||◌, ◌&&◌, not, filter}
use Rattle.std.specs.List.{list_any, list_all}
use Rattle.std.proofs.lemmas.Bool.{eq-eqb, eqb-true, le-leb, leb-true, or_cases, or_left, or_right, and_parts, and_from, false≢true}
use Rattle.std.proofs.lemmas.Bool.Decides.{nat_tests}
use Rattle.wc_value.specs.declared.process.ProcessState.{ProcessState}
use Rattle.wc_value.specs.declared.process.ProcessState.TheVariants as state
use Rattle.wc_state.specs.declared.record.Part.{Part}
use Rattle.wc_state.specs.declared.record.Part.TheVariants as part
use Rattle.wc_state.specs.declared.record.ProcessRecord.{ProcessRecord}
use Rattle.wc_records.specs.Records.{find_record}
use Rattle.wc_records.specs.Ascending.{AreAscending}
use Rattle.wc_records.specs.Readiness.{due_of, is_waiting, waits_later, ended_at, may_go, is_ready, ready_at, waits_until, is_due_in, AreDues}
use Rattle.wc_records.specs.Index.{chosen}
use Rattle.wc_records.specs.Ready.{first_above, due_by}
use Rattle.wc_records.specs.Rounds.{first_with}
use Rattle.wc_records.proofs.Halving.{absent}
use Rattle.wc_records.proofs.Chosen.{chosen_sorted}
use Rattle.wc_records.proofs.Firsts.{stands, first_like, first_of_sorted, first_unique, first_with_is}

same_tests : (a b : Bool) → (a ≡ true → b ≡ true) → (b ≡ true → a ≡ true) → a ≡ b
same_tests true b forth back = sym (forth refl)
same_tests false true forth back = back refl
same_tests false false forth back = refl

-- ---- the numbers of records that pass a test

-- the process is there, and its record passes the test
abbrev pub passes : (ProcessRecord → Bool) → Option ProcessRecord → Bool
passes test None = false
passes test (Some r) = test r

pub stands_chosen : (test : ProcessRecord → Bool) (low : ℕ) (rs : List ProcessRecord) → AreAscending low rs → (n : ℕ) → stands n (chosen test rs) ≡ passes test (find_record n rs)
stands_chosen test low [] up n = refl
stands_chosen test low (r ∷ rs) up n = by_tests (test r) (r.node == n) refl refl (stands_chosen test r.node rs up.1 n)
  where
    by_tests : (b here : Bool) → test r ≡ b → (r.node == n) ≡ here → stands n (chosen test rs) ≡ passes test (find_record n rs)
        → stands n (map (λ (q : ProcessRecord). q.node) (cond b (r ∷ filter test rs) (filter test rs))) ≡ passes test (if here then Some r else find_record n rs)
    by_tests true true is same more = ap (λ (c : Bool). c || stands n (chosen test rs)) same ∙ sym is
    by_tests true false is other more = ap (λ (c : Bool). c || stands n (chosen test rs)) other ∙ more
    by_tests false true isnt same more = more ∙ ap (passes test) (absent n r.node rs up.1 (omega (arith, eqb-true r.node n same))) ∙ sym isnt
    by_tests false false isnt other more = more

-- ---- the due moments up to one

-- A process stands among the due moments with this one, which isn't after the moment.
pub record StandsDue (dues : List (ℕ × ℕ)) (now n : ℕ) : Type 0 where
  pub due : ℕ
  pub is : is_due_in dues due n ≡ true
  pub by_now : due ≤ now

pub from_due : (dues : List (ℕ × ℕ)) (now n : ℕ) → list_any (λ (d : ℕ × ℕ). d.1 == n) (due_by now dues) ≡ true → StandsDue dues now n
from_due [] now n h = absurd (cc)
from_due (d ∷ dues) now n h = by_test (nat_le d.0 now) refl h (λ more. later (from_due dues now n more))
  where
    later : StandsDue dues now n → StandsDue (d ∷ dues) now n
    later s = record { due = s.due; is = or_right ((d.0 == s.due) && (d.1 == n)) (is_due_in dues s.due n) s.is; by_now = s.by_now }

    by_test : (b : Bool) → nat_le d.0 now ≡ b → list_any (λ (e : ℕ × ℕ). e.1 == n) (cond b (d ∷ due_by now dues) (due_by now dues)) ≡ true
        → (list_any (λ (e : ℕ × ℕ). e.1 == n) (due_by now dues) ≡ true → StandsDue (d ∷ dues) now n) → StandsDue (d ∷ dues) now n
    by_test true le h rest = by (or_cases (d.1 == n) (list_any (λ (e : ℕ × ℕ). e.1 == n) (due_by now dues)) h)
      where
        by : ((d.1 == n) ≡ true) ⊎ (list_any (λ (e : ℕ × ℕ). e.1 == n) (due_by now dues) ≡ true) → StandsDue (d ∷ dues) now n
        by (inl same) = record {
          due = d.0;
          is = or_left ((d.0 == d.0) && (d.1 == n)) (is_due_in dues d.0 n) (and_from (d.0 == d.0) (d.1 == n) (eq-eqb d.0 d.0 refl) same);
          by_now = leb-true d.0 now le;
        }
        by (inr more) = rest more
    by_test false le h rest = rest h

to_due : (dues : List (ℕ × ℕ)) (now n due : ℕ) → is_due_in dues due n ≡ true → due ≤ now → list_any (λ (d : ℕ × ℕ). d.1 == n) (due_by now dues) ≡ true
to_due [] now n due is le = absurd (cc)
to_due (d ∷ dues) now n due is le = by_test (nat_le d.0 now) refl (or_cases ((d.0 == due) && (d.1 == n)) (is_due_in dues due n) is) (λ more. to_due dues now n due more le)
  where
    by_test : (b : Bool) → nat_le d.0 now ≡ b → (((d.0 == due) && (d.1 == n)) ≡ true) ⊎ (is_due_in dues due n ≡ true)
        → (is_due_in dues due n ≡ true → list_any (λ (e : ℕ × ℕ). e.1 == n) (due_by now dues) ≡ true)
        → list_any (λ (e : ℕ × ℕ). e.1 == n) (cond b (d ∷ due_by now dues) (due_by now dues)) ≡ true
    by_test true _ (inl here) rest = or_left (d.1 == n) (list_any (λ (e : ℕ × ℕ). e.1 == n) (due_by now dues)) ((and_parts (d.0 == due) (d.1 == n) here).1)
    by_test true _ (inr more) rest = or_right (d.1 == n) (list_any (λ (e : ℕ × ℕ). e.1 == n) (due_by now dues)) (rest more)
    by_test false isnt (inl here) rest =
        let same : d.0 ≡ due = eqb-true d.0 due ((and_parts (d.0 == due) (d.1 == n) here).0) in
        absurd (false≢true (sym isnt ∙ le-leb d.0 now (omega (arith, same, le))))
    by_test false _ (inr more) rest = rest more

-- the job waits for a later moment, which has come
abbrev pub is_due : ℕ → ProcessRecord → Bool
is_due now r = waits_later r && nat_le (due_of r.part) now

pub stands_due : (rs : List ProcessRecord) (dues : List (ℕ × ℕ)) → AreDues rs dues → (now n : ℕ)
    → list_any (λ (d : ℕ × ℕ). d.1 == n) (due_by now dues) ≡ passes (is_due now) (find_record n rs)
stands_due rs dues a now n =
    same_tests (list_any (λ (d : ℕ × ℕ). d.1 == n) (due_by now dues)) (passes (is_due now) (find_record n rs))
    (λ h. let s = from_due dues now n h in forth s.due s.by_now (find_record n rs) (sym (a.exact s.due n) ∙ s.is)) (λ h. back (find_record n rs) refl h)
  where
    forth : (due : ℕ) → due ≤ now → (o : Option ProcessRecord) → waits_until due o ≡ true → passes (is_due now) o ≡ true
    forth due le None h = absurd (cc)
    forth due le (Some r) h =
        let both = and_parts (waits_later r) (due_of r.part == due) h in
        and_from (waits_later r) (nat_le (due_of r.part) now) both.0 (le-leb (due_of r.part) now (omega (arith, eqb-true (due_of r.part) due both.1, le)))

    back : (o : Option ProcessRecord) → find_record n rs ≡ o → passes (is_due now) o ≡ true → list_any (λ (d : ℕ × ℕ). d.1 == n) (due_by now dues) ≡ true
    back None e h = absurd (cc)
    back (Some r) e h =
        let both = and_parts (waits_later r) (nat_le (due_of r.part) now) h in
        let waits : waits_until (due_of r.part) (Some r) ≡ true = and_from (waits_later r) (due_of r.part == due_of r.part) both.0 (eq-eqb (due_of r.part) (due_of r.part) refl) in
        to_due dues now n (due_of r.part) (a.exact (due_of r.part) n ∙ ap (waits_until (due_of r.part)) e ∙ waits) (leb-true (due_of r.part) now both.1)

-- ---- ready at a moment

or_none : (b : Bool) → b ≡ b || false
or_none true = refl
or_none false = refl

job_ready : (due now : ℕ) → nat_le due now ≡ nat_le due 0 || (nat_lt 0 due && nat_le due now)
job_ready due now = grind (arith, nat_tests)

-- a process is ready at a moment exactly where it is at once, or its job is due
pub ready_by_parts : (rs : List ProcessRecord) (now : ℕ) (r : ProcessRecord) → is_ready rs now r ≡ is_ready rs 0 r || is_due now r
ready_by_parts rs now r = by r.paused r.state r.part
  where
    by : (paused : Bool) (s : ProcessState) (p : Part) → not paused && may_go rs now s p
        ≡ (not paused && may_go rs 0 s p) || ((not paused && (is_waiting s && nat_lt 0 (due_of p))) && nat_le (due_of p) now)
    by true s p = refl
    by false state.Created p = refl
    by false state.Running p = refl
    by false state.Waiting part.Fresh = refl
    by false state.Waiting (part.Chain c) = or_none (list_all (λ a. ended_at rs a.pid) c.awaiting)
    by false state.Waiting (part.Job j) = job_ready j.due now
    by false state.Waiting part.Over = refl
    by false (state.Finished n) p = refl
    by false (state.Excepted e) p = refl
    by false state.Killed p = refl

-- and not both
pub not_both : (rs : List ProcessRecord) (now : ℕ) (r : ProcessRecord) → is_ready rs 0 r ≡ true → is_due now r ≡ false
not_both rs now r = by r.paused r.state r.part
  where
    by : (paused : Bool) (s : ProcessState) (p : Part) → not paused && may_go rs 0 s p ≡ true
        → (not paused && (is_waiting s && nat_lt 0 (due_of p))) && nat_le (due_of p) now ≡ false
    by true s p h = refl
    by false state.Created p h = refl
    by false state.Running p h = refl
    by false state.Waiting part.Fresh h = refl
    by false state.Waiting (part.Chain c) h = refl
    by false state.Waiting (part.Job j) h = grind (arith, nat_tests)
    by false state.Waiting part.Over h = refl
    by false (state.Finished n) p h = refl
    by false (state.Excepted e) p h = refl
    by false state.Killed p h = refl

pub stands_ready : (rs : List ProcessRecord) (dues : List (ℕ × ℕ)) → AreAscending 0 rs → AreDues rs dues → (now n : ℕ)
    → stands n (ready_at rs 0) || list_any (λ (d : ℕ × ℕ). d.1 == n) (due_by now dues) ≡ stands n (ready_at rs now)
stands_ready rs dues up a now n =
    (λ i. stands_chosen (is_ready rs 0) 0 rs up n i || stands_due rs dues a now n i) ∙ by (find_record n rs) ∙ sym (stands_chosen (is_ready rs now) 0 rs up n)
  where
    by : (o : Option ProcessRecord) → passes (is_ready rs 0) o || passes (is_due now) o ≡ passes (is_ready rs now) o
    by None = refl
    by (Some r) = sym (ready_by_parts rs now r)

-- ---- the next one

pub next_is : (rs : List ProcessRecord) (dues : List (ℕ × ℕ)) → AreAscending 0 rs → AreDues rs dues → (last now : ℕ)
    → first_with last (first_above last (ready_at rs 0)) (due_by now dues) ≡ first_above last (ready_at rs now)
next_is rs dues up a last now =
    first_unique last (λ n. stands n (ready_at rs now)) (first_with last (first_above last (ready_at rs 0)) (due_by now dues)) (first_above last (ready_at rs now))
    (first_like last (λ n. stands n (ready_at rs 0) || list_any (λ (d : ℕ × ℕ). d.1 == n) (due_by now dues)) (λ n. stands n (ready_at rs now))
    (first_with last (first_above last (ready_at rs 0)) (due_by now dues)) (stands_ready rs dues up a now)
    (first_with_is last (λ n. stands n (ready_at rs 0)) (first_above last (ready_at rs 0)) (due_by now dues)
    (first_of_sorted last (ready_at rs 0) (chosen_sorted (is_ready rs 0) 0 rs up))))
    (first_of_sorted last (ready_at rs now) (chosen_sorted (is_ready rs now) 0 rs up))
