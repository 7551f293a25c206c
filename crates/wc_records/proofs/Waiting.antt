-- What an index tells of the moments that processes wait for, and of those that live.
use Rattle.std.proofs.Common.{◌≡◌, ℕ, ◌+◌, ◌≤◌, Bool, true, false, cond, List, [], ◌∷◌, Option, Some, None, inl, inr, refl, sym, ap, ◌∙◌, arith}
use Rattle.std.specs.Prelude.{◌⊎◌, nat_le, ◌==◌, ◌||◌, ◌&&◌, not}
use Rattle.std.specs.List.{list_any}
use Rattle.std.proofs.lemmas.Bool.{eq-eqb, ne_eqb, eqb-true, eqb-false, le-leb, or_cases, or_left, or_right, and_parts, and_from}
use Rattle.std.proofs.lemmas.Bool.Decides.{nat_tests}
use Rattle.std.proofs.lemmas.List.Sums.{sum_by-cons}
use Rattle.wc_state.specs.declared.record.ProcessRecord.{ProcessRecord}
use Rattle.wc_records.specs.Records.{find_record, has_ended}
use Rattle.wc_records.specs.Marked.{AllAfter}
use Rattle.wc_records.specs.Readiness.{due_of, waits_later, is_ready, waits_until, sooner, is_due_in, AreDues, live_in}
use Rattle.wc_records.proofs.Moments.{ready_by_parts, is_due}

-- ---- a process that waits for a moment

-- The process with this number waits for this moment.
pub record Waits (rs : List ProcessRecord) (due pid : ℕ) : Type 0 where
  pub process : ProcessRecord
  pub found : find_record pid rs ≡ Some process
  pub later : waits_later process ≡ true
  pub is : due_of process.part ≡ due

-- the first due moment is that of a process
pub first_waits : (rs : List ProcessRecord) (d : ℕ × ℕ) (dues : List (ℕ × ℕ)) → AreDues rs (d ∷ dues) → Waits rs d.0 d.1
first_waits rs d dues a = by (find_record d.1 rs) refl (sym (a.exact d.0 d.1) ∙ or_left ((d.0 == d.0) && (d.1 == d.1)) (is_due_in dues d.0 d.1) (and_from (d.0 == d.0) (d.1 == d.1) (eq-eqb d.0 d.0 refl) (eq-eqb d.1 d.1 refl)))
  where
    by : (o : Option ProcessRecord) → find_record d.1 rs ≡ o → waits_until d.0 o ≡ true → Waits rs d.0 d.1
    by None e h = absurd (cc)
    by (Some r) e h =
        let both = and_parts (waits_later r) (due_of r.part == d.0) h in
        record { process = r; found = e; later = both.0; is = eqb-true (due_of r.part) d.0 both.1 }

not_sooner : (d : ℕ × ℕ) (due n : ℕ) → sooner d (due, n) ≡ true → d.0 ≤ due
not_sooner d due n h = grind (arith, nat_tests)

not_after : (d : ℕ × ℕ) (due n : ℕ) (dues : List (ℕ × ℕ)) → AllAfter sooner d dues → is_due_in dues due n ≡ true → d.0 ≤ due
not_after d due n [] after is = absurd (cc)
not_after d due n (e ∷ dues) after is = by (or_cases ((e.0 == due) && (e.1 == n)) (is_due_in dues due n) is) (λ more. not_after d due n dues after.1 more)
  where
    by : (((e.0 == due) && (e.1 == n)) ≡ true) ⊎ (is_due_in dues due n ≡ true) → (is_due_in dues due n ≡ true → d.0 ≤ due) → d.0 ≤ due
    by (inl here) rest =
        let both = and_parts (e.0 == due) (e.1 == n) here in
        omega (arith, not_sooner d e.0 e.1 after.0, eqb-true e.0 due both.0)
    by (inr more) rest = rest more

-- where its own moment stands in the list
stands_itself : (rs : List ProcessRecord) (dues : List (ℕ × ℕ)) (r : ProcessRecord) → AreDues rs dues → find_record r.node rs ≡ Some r → is_due_in dues (due_of r.part) r.node ≡ waits_later r
stands_itself rs dues r a found =
    a.exact (due_of r.part) r.node ∙ ap (waits_until (due_of r.part)) found ∙ ap (λ (b : Bool). waits_later r && b) (eq-eqb (due_of r.part) (due_of r.part) refl) ∙ with_true (waits_later r)
  where
    with_true : (b : Bool) → b && true ≡ b
    with_true true = refl
    with_true false = refl

-- the first due moment is the least
pub first_is_least : (rs : List ProcessRecord) (d : ℕ × ℕ) (dues : List (ℕ × ℕ)) (r : ProcessRecord) → AreDues rs (d ∷ dues) → find_record r.node rs ≡ Some r → waits_later r ≡ true
    → d.0 ≤ due_of r.part
first_is_least rs d dues r a found later =
    by (or_cases ((d.0 == due_of r.part) && (d.1 == r.node)) (is_due_in dues (due_of r.part) r.node) (stands_itself rs (d ∷ dues) r a found ∙ later))
  where
    by : (((d.0 == due_of r.part) && (d.1 == r.node)) ≡ true) ⊎ (is_due_in dues (due_of r.part) r.node ≡ true) → d.0 ≤ due_of r.part
    by (inl here) = omega (arith, eqb-true d.0 (due_of r.part) ((and_parts (d.0 == due_of r.part) (d.1 == r.node) here).0))
    by (inr more) = not_after d (due_of r.part) r.node dues a.order.0 more

-- where there is no due moment, nobody waits for one
pub nobody_waits : (rs : List ProcessRecord) (r : ProcessRecord) → AreDues rs [] → find_record r.node rs ≡ Some r → waits_later r ≡ false
nobody_waits rs r a found = sym (stands_itself rs [] r a found)

-- ---- ready at some moment

-- who is ready at moment 0 is ready at each
pub ready_stays : (rs : List ProcessRecord) (now : ℕ) (r : ProcessRecord) → is_ready rs 0 r ≡ true → is_ready rs now r ≡ true
ready_stays rs now r is = ready_by_parts rs now r ∙ or_left (is_ready rs 0 r) (is_due now r) is

-- who waits for a moment is ready at it
pub ready_then : (rs : List ProcessRecord) (r : ProcessRecord) → waits_later r ≡ true → is_ready rs (due_of r.part) r ≡ true
ready_then rs r later =
    ready_by_parts rs (due_of r.part) r
    ∙ or_right (is_ready rs 0 r) (is_due (due_of r.part) r) (and_from (waits_later r) (nat_le (due_of r.part) (due_of r.part)) later (le-leb (due_of r.part) (due_of r.part) (omega arith)))

-- who isn't ready at moment 0, and doesn't wait for one, is never ready
pub never_ready : (rs : List ProcessRecord) (now : ℕ) (r : ProcessRecord) → is_ready rs 0 r ≡ false → waits_later r ≡ false → is_ready rs now r ≡ false
never_ready rs now r isnt none = ready_by_parts rs now r ∙ (λ i. isnt i || (none i && nat_le (due_of r.part) now))

-- ---- the living

-- nobody lives exactly where none is counted
pub none_live : (rs : List ProcessRecord) → live_in rs ≡ 0 → list_any (λ r. not (has_ended r.state)) rs ≡ false
none_live [] e = refl
none_live (r ∷ rs) e = by (not (has_ended r.state)) (sum_by-cons (λ (q : ProcessRecord). cond (not (has_ended q.state)) 1 0) r rs) (λ none. none_live rs none)
  where
    by : (b : Bool) → live_in (r ∷ rs) ≡ cond b 1 0 + live_in rs → (live_in rs ≡ 0 → list_any (λ q. not (has_ended q.state)) rs ≡ false)
        → b || list_any (λ q. not (has_ended q.state)) rs ≡ false
    by true sum rest = absurd (omega (arith, sum, e))
    by false sum rest = rest (omega (arith, sum, e))

pub some_live : (rs : List ProcessRecord) → (live_in rs == 0) ≡ false → list_any (λ r. not (has_ended r.state)) rs ≡ true
some_live [] e = absurd (cc)
some_live (r ∷ rs) e = by (not (has_ended r.state)) (sum_by-cons (λ (q : ProcessRecord). cond (not (has_ended q.state)) 1 0) r rs) (λ some. some_live rs some)
  where
    by : (b : Bool) → live_in (r ∷ rs) ≡ cond b 1 0 + live_in rs → ((live_in rs == 0) ≡ false → list_any (λ q. not (has_ended q.state)) rs ≡ true)
        → b || list_any (λ q. not (has_ended q.state)) rs ≡ true
    by true sum rest = refl
    by false sum rest = rest (ne_eqb (live_in rs) 0 (λ none. eqb-false (live_in (r ∷ rs)) 0 e (omega (arith, sum, none))))
