-- Where none is ready, the first due moment is the least, and there is one where some process will be ready.
use Rattle.std.proofs.Common.{◌≡◌, ℕ, ◌+◌, ◌<◌, ◌≤◌, Bool, true, false, List, [], ◌∷◌, Option, Some, None, get_or, length, refl, sym, ap, subst, ◌∙◌, arith}
use Rattle.std.specs.Prelude.{not, ◌&&◌, ◌||◌, if◌then◌else◌, nat_le, nat_lt, All, IfSome}
use Rattle.std.proofs.lemmas.Bool.{leb-false, lt-ltb, or_parts}
use Rattle.wc_value.specs.declared.process.ProcessState.{ProcessState}
use Rattle.wc_value.specs.declared.process.ProcessState.TheVariants as state
use Rattle.wc_state.specs.declared.record.Part.{Part}
use Rattle.wc_state.specs.declared.record.Part.TheVariants as part
use Rattle.wc_state.specs.declared.record.ProcessRecord.{ProcessRecord}
use Rattle.wc_records.specs.Readiness as readiness
use Rattle.wc_records.specs.Readiness.{waits_later, AreDues}
use Rattle.wc_records.proofs.Moments.{ready_by_parts, is_due}
use Rattle.wc_records.proofs.Waiting.{Waits, first_is_least, first_waits, never_ready, nobody_waits}
use Rattle.wc_world.specs.World.{World}
use Rattle.wc_world.specs.Consistent.{IsConsistent}
use Rattle.wc_world.specs.Records.{find_record, has_ended}
use Rattle.wc_world.proofs.FoundRecords.{found_holds}
use Rattle.wc_world.proofs.ReachedLists.{unique}
use Rattle.wc_world.proofs.SnapshotLists.{number_of_found}
use Rattle.wc_machine.specs.Readiness.{may_go, is_ready}
use Rattle.wc_core.specs.Next.{HasDue, IsLeastDue, IsNotAfter, due_in, due_of, first_moment}
use Rattle.wc_core.specs.Standing.{HasFree, moment_in}

-- a process that waits for a later moment has it as its due moment
due_is : (r : ProcessRecord) → waits_later r ≡ true → due_of r ≡ Some (readiness.due_of r.part)
due_is r h = by r.paused r.state r.part h
  where
    by : (paused : Bool) (s : ProcessState) (p : Part) → not paused && (readiness.is_waiting s && nat_lt 0 (readiness.due_of p)) ≡ true
        → (if paused || has_ended s then None else due_in p) ≡ Some (readiness.due_of p)
    by true s p h = absurd (cc)
    by false state.Created p h = absurd (cc)
    by false state.Running p h = absurd (cc)
    by false state.Waiting part.Fresh h = absurd (cc)
    by false state.Waiting (part.Chain d) h = absurd (cc)
    by false state.Waiting (part.Job j) h = refl
    by false state.Waiting part.Over h = absurd (cc)
    by false (state.Finished n) p h = absurd (cc)
    by false (state.Excepted e) p h = absurd (cc)
    by false state.Killed p h = absurd (cc)

-- who isn't ready, but has a due moment, waits for it
has_to_wait : (w : World) (now due : ℕ) (r : ProcessRecord) → is_ready w now r ≡ false → due_of r ≡ Some due → (waits_later r ≡ true) × (readiness.due_of r.part ≡ due)
has_to_wait w now due r unready waits = by r.paused r.state r.part unready waits
  where
    by : (paused : Bool) (s : ProcessState) (p : Part) → not paused && may_go w now s p ≡ false → (if paused || has_ended s then None else due_in p) ≡ Some due
        → (not paused && (readiness.is_waiting s && nat_lt 0 (readiness.due_of p)) ≡ true) × (readiness.due_of p ≡ due)
    by true s p h e = absurd (cc)
    by false state.Created p h e = absurd (cc)
    by false state.Running p h e = absurd (cc)
    by false state.Waiting part.Fresh h e = absurd (cc)
    by false state.Waiting (part.Chain d) h e = absurd (cc)
    by false state.Waiting (part.Job j) h e = let later : now < j.due = leb-false j.due now h in let same : j.due ≡ due = cc in (lt-ltb 0 j.due (omega (arith, later)), same)
    by false state.Waiting part.Over h e = absurd (cc)
    by false (state.Finished n) p h e = absurd (cc)
    by false (state.Excepted x) p h e = absurd (cc)
    by false state.Killed p h e = absurd (cc)

pub moment_is : (p : Part) → moment_in p ≡ readiness.due_of p
moment_is part.Fresh = refl
moment_is (part.Chain d) = refl
moment_is (part.Job j) = refl
moment_is part.Over = refl

module _ (w : World) (c : IsConsistent w) (now : ℕ) (none : All (λ r. is_ready w now r ≡ false) w.records) where
  itself : (i : ℕ) (d : ProcessRecord) → i < length w.records → find_record (get_or w.records i d).node w.records ≡ Some (get_or w.records i d)
  itself i d lt = unique 1 w.nodes w.records c.numbered i d lt

  unready : (r : ProcessRecord) → find_record r.node w.records ≡ Some r → is_ready w now r ≡ false
  unready r found = found_holds (λ x. is_ready w now x ≡ false) r.node w.records r none found

  -- it isn't ready at moment 0 either
  unready_at_once : (r : ProcessRecord) → find_record r.node w.records ≡ Some r → (is_ready w 0 r ≡ false) × (is_due now r ≡ false)
  unready_at_once r found = or_parts (is_ready w 0 r) (is_due now r) (sym (ready_by_parts w.records now r) ∙ unready r found)

  pub first_rests : (d : ℕ × ℕ) (dues : List (ℕ × ℕ)) → AreDues w.records (d ∷ dues) → (now < d.0) × IsLeastDue w (Some d.0)
  first_rests d dues a = (later, (due, least))
    where
      first : Waits w.records d.0 d.1
      first = first_waits w.records d dues a

      r : ProcessRecord
      r = first.process

      found : find_record r.node w.records ≡ Some r
      found = ap (λ (n : ℕ). find_record n w.records) (number_of_found d.1 w.records r first.found) ∙ first.found

      later : now < d.0
      later =
          let isnt : nat_le (readiness.due_of r.part) now ≡ false = ap (λ (b : Bool). b && nat_le (readiness.due_of r.part) now) (sym first.later) ∙ (unready_at_once r found).1 in
          omega (arith, leb-false (readiness.due_of r.part) now isnt, first.is)

      due : HasDue w d.0
      due = record { process = r; found = found; waits = due_is r first.later ∙ ap Some first.is }

      not_before : (q : ProcessRecord) → find_record q.node w.records ≡ Some q → (o : Option ℕ) → due_of q ≡ o → IfSome o (λ e. d.0 ≤ e)
      not_before q there None e = tt
      not_before q there (Some m) e =
          let waits = has_to_wait w now m q (unready q there) e in
          omega (arith, first_is_least w.records d dues q a there waits.0, waits.1)

      least : All (IsNotAfter d.0) w.records
      least i e lt = not_before (get_or w.records i e) (itself i e lt) (due_of (get_or w.records i e)) refl

  -- where nobody waits for a moment, none will be ready
  pub nothing_comes : AreDues w.records [] → HasFree w → ⊥
  nothing_comes a f =
      let r : ProcessRecord = f.process in
      let isnt : is_ready w (moment_in r.part) r ≡ false
      = never_ready w.records (moment_in r.part) r (unready_at_once r f.found).0 (nobody_waits w.records r a f.found) in
      let is = f.ready in
      cc

  -- what the first due moment tells
  pub rest_is : (dues : List (ℕ × ℕ)) → AreDues w.records dues → (until : ℕ) → first_moment dues ≡ Some until → (now < until) × IsLeastDue w (Some until)
  rest_is [] a until e = absurd (cc)
  rest_is (d ∷ dues) a until e = let same : d.0 ≡ until = cc in subst (λ (n : ℕ). (now < n) × IsLeastDue w (Some n)) same (first_rests d dues a)

  pub some_moment : (dues : List (ℕ × ℕ)) → AreDues w.records dues → HasFree w → first_moment dues ≡ None → ⊥
  some_moment [] a f e = nothing_comes a f
  some_moment (d ∷ dues) a f e = cc
