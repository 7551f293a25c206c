-- The jobs that wait for a moment after the least one that a steady clock may tell: a calm turn makes none, and a rest ends the wait of one.
use Rattle.std.proofs.Common.{◌≡◌, ℕ, suc, ◌<◌, ◌≤◌, Bool, true, false, List, [], ◌∷◌, Some, None, count_by, refl, sym, ap, ◌∙◌, arith}
use Rattle.std.specs.Prelude.{not, ◌&&◌, ◌||◌, if◌then◌else◌, nat_lt}
use Rattle.std.proofs.lemmas.Bool.{and_parts, lt-ltb, le-ltb, ltb-true}
use Rattle.wc_value.specs.declared.process.ProcessState.TheVariants as state
use Rattle.wc_state.specs.declared.record.JobPart.{JobPart}
use Rattle.wc_state.specs.declared.record.Part.{Part}
use Rattle.wc_state.specs.declared.record.Part.TheVariants as part
use Rattle.wc_state.specs.declared.record.ProcessRecord.{ProcessRecord}
use Rattle.wc_records.specs.Readiness as readiness
use Rattle.wc_records.specs.Readiness.{is_waiting, waits_later}
use Rattle.wc_records.specs.declared.change.Kept.{Kept}
use Rattle.wc_records.specs.declared.change.SetProcess.{SetProcess}
use Rattle.wc_world.specs.declared.change.Change.{Change}
use Rattle.wc_world.specs.declared.change.Change.TheVariants as change
use Rattle.wc_world.specs.Applied.{after_change, changed, keep, made, next_number, set}
use Rattle.wc_world.specs.Consistent.{IsConsistent, Stands}
use Rattle.wc_world.specs.Fits.{part_fits}
use Rattle.wc_world.specs.Records.{has_ended}
use Rattle.wc_world.specs.World.{World}
use Rattle.wc_world.proofs.FoundRecords.{found_holds}
use Rattle.wc_soundness.proofs.Tasks.{job_waits}
use Rattle.wc_runner.specs.Next.{IsLeastDue, due_in, due_of}
use Rattle.wc_runner.proofs.Sets.{AllSuit, Suits}
use Rattle.wc_ends.proofs.CalmTurns.{SetsNoDue}
use Rattle.wc_ends.proofs.Counts.{count_less, count_pushed, count_set}

-- the job waits for a moment after this one
abbrev pub late : ℕ → ProcessRecord → Bool
late least r = waits_later r && nat_lt least (readiness.due_of r.part)

late_due : (least : ℕ) (r : ProcessRecord) → late least r ≡ true → least < readiness.due_of r.part
late_due least r h = ltb-true least (readiness.due_of r.part) (and_parts (waits_later r) (nat_lt least (readiness.due_of r.part)) h).1

-- what is late at a moment was late at an earlier one
pub later_late : (least now : ℕ) → least ≤ now → (r : ProcessRecord) → late now r ≡ true → late least r ≡ true
later_late least now le r h =
    let b = and_parts (waits_later r) (nat_lt now (readiness.due_of r.part)) h in
    let after : now < readiness.due_of r.part = late_due now r h in
    ap (λ (x : Bool). x && nat_lt least (readiness.due_of r.part)) b.0 ∙ lt-ltb least (readiness.due_of r.part) (omega (arith, le, after))

-- ---- turns

set_late : (least batch : ℕ) (s : SetProcess) → SetsNoDue s → (r : ProcessRecord) → late least (set batch s r) ≡ true → late least r ≡ true
set_late least batch s none r h =
    let due : least < readiness.due_of s.part = late_due least (set batch s r) h in
    absurd (omega (arith, due, none))

change_late : (least batch : ℕ) (w : World) (c : Change) → Suits SetsNoDue c → count_by (late least) (after_change batch w c).records ≤ count_by (late least) w.records
change_late least batch w (change.Library l names) h = omega arith
change_late least batch w (change.Data v) h = omega arith
change_late least batch w (change.Process n) h = count_pushed (late least) (made (next_number w) n) refl w.records
change_late least batch w (change.Link l) h = omega arith
change_late least batch w (change.Set s) h = count_set (late least) s.pid (set batch s) (set_late least batch s h) w.records
change_late least batch w (change.Count n) h = omega arith
change_late least batch w (change.Kept k) h = count_set (late least) k.pid (keep k) (λ r e. e) w.records

-- changes that set no due moment make no job late
pub changes_late : (least batch : ℕ) (w : World) (cs : List Change) → AllSuit SetsNoDue cs → count_by (late least) (changed batch w cs).records ≤ count_by (late least) w.records
changes_late least batch w [] h = omega arith
changes_late least batch w (c ∷ cs) h =
    let one : count_by (late least) (after_change batch w c).records ≤ count_by (late least) w.records = change_late least batch w c h.0 in
    let rest : count_by (late least) (changed batch (after_change batch w c) cs).records ≤ count_by (late least) (after_change batch w c).records =
    changes_late least batch (after_change batch w c) cs h.1 in
    omega (arith, one, rest)

-- ---- rests

and_false : (b : Bool) → (b && false) ≡ false
and_false true = refl
and_false false = refl

-- who waits for a moment is a job that isn't paused
waits_for : (paused over : Bool) (p : Part) (due : ℕ) → (if paused || over then None else due_in p) ≡ Some due
    → (paused ≡ false) × ((j : JobPart) × (p ≡ part.Job j) × (j.due ≡ due))
waits_for true over p due h = absurd (cc h)
waits_for false true p due h = absurd (cc h)
waits_for false false part.Fresh due h = absurd (cc h)
waits_for false false (part.Chain c) due h = absurd (cc h)
waits_for false false (part.Job j) due h = let same : j.due ≡ due = cc in (refl, (j, refl, same))
waits_for false false part.Over due h = absurd (cc h)

-- A rest until the least due moment, which comes, makes fewer jobs late.
pub rest_late : (least now until : ℕ) (w : World) → IsConsistent w → least ≤ now → now < until → IsLeastDue w (Some until)
    → suc (count_by (late until) w.records) ≤ count_by (late least) w.records
rest_late least now until w c low later (due, all) =
    count_less (late until) (late least) (later_late least until (omega (arith, low, later))) r.node w.records r due.found over_now was_late
  where
    r : ProcessRecord
    r = due.process

    waits : (r.paused ≡ false) × ((j : JobPart) × (r.part ≡ part.Job j) × (j.due ≡ until))
    waits = waits_for r.paused (has_ended r.state) r.part until due.waits

    moment : readiness.due_of r.part ≡ until
    moment = ap readiness.due_of waits.1.1 ∙ waits.1.2

    waiting : r.state ≡ state.Waiting
    waiting =
        let stands : Stands w r = found_holds (Stands w) r.node w.records r c.records due.found in
        (job_waits r.kind r.state waits.1.0 waits.1.0 (ap (part_fits r.kind r.state) (sym waits.1.1) ∙ stands.part)).0

    over_now : late until r ≡ false
    over_now =
        let not_after : nat_lt until (readiness.due_of r.part) ≡ false = ap (nat_lt until) moment ∙ le-ltb until until (omega arith) in
        ap (λ (b : Bool). waits_later r && b) not_after ∙ and_false (waits_later r)

    was_late : late least r ≡ true
    was_late =
        let some : nat_lt 0 (readiness.due_of r.part) ≡ true = ap (nat_lt 0) moment ∙ lt-ltb 0 until (omega (arith, later)) in
        let after : nat_lt least (readiness.due_of r.part) ≡ true = ap (nat_lt least) moment ∙ lt-ltb least until (omega (arith, low, later)) in
        λ i. (not (waits.0 i) && (is_waiting (waiting i) && some i)) && after i
