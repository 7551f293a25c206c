-- A job that moves to another task keeps a world sound.
use Rattle.std.proofs.Common.{◌≡◌, ℕ, suc, ◌+◌, ◌*◌, ◌^◌, ◌<◌, Bool, true, false, Option, Some, inl, inr, refl, sym, ap, subst, ◌∙◌, arith}
use Rattle.std.specs.Prelude.{◌==◌, ◌&&◌, ◌||◌, not, if◌then◌else◌, nat_lt}
use Rattle.std.proofs.lemmas.Bool.{cases_lt, eq-eqb, lt-ltb, ltb-true}
use Rattle.wc_value.specs.declared.process.ProcessState.{ProcessState}
use Rattle.wc_value.specs.declared.process.ProcessState.TheVariants as state
use Rattle.wc_value.specs.declared.process.Request.{Request}
use Rattle.wc_syntax.specs.declared.definition.Definition.{Definition}
use Rattle.wc_syntax.specs.declared.definition.Definition.TheVariants as definition
use Rattle.wc_syntax.specs.declared.definition.Job.{Job}
use Rattle.wc_expression.specs.declared.outcome.Outcome.{Outcome}
use Rattle.wc_expression.specs.declared.outcome.Outcome.TheVariants.{Gives}
use Rattle.wc_semantics.specs.Requests.{request}
use Rattle.wc_state.specs.declared.record.JobPart.{JobPart}
use Rattle.wc_state.specs.declared.record.Part.TheVariants as part
use Rattle.wc_state.specs.declared.record.ProcessKind.{ProcessKind}
use Rattle.wc_state.specs.declared.record.ProcessKind.TheVariants as kind
use Rattle.wc_state.specs.declared.record.ProcessRecord.{ProcessRecord}
use Rattle.wc_state.specs.declared.record.Task.{Task}
use Rattle.wc_state.specs.declared.record.Task.TheVariants as task
use Rattle.wc_world.specs.World.{World}
use Rattle.wc_world.specs.Consistent.{Stands}
use Rattle.wc_world.specs.Fits.{counted_calls, fails_fit, part_fits, waits}
use Rattle.wc_world.specs.Records.{has_ended}
use Rattle.wc_world.proofs.FoundRecords.{found_holds}
use Rattle.wc_machine.specs.declared.answer.TaskAnswer.{TaskAnswer}
use Rattle.wc_machine.specs.declared.answer.TaskAnswer.TheVariants as answer
use Rattle.wc_machine.specs.Readiness.{may_go}
use Rattle.wc_machine.specs.Recorded.{its_definition, recorded_inputs, recorded_request, request_by}
use Rattle.wc_machine.specs.Tasks.{Moved, after, failed, saturated}
use Rattle.wc_soundness.specs.JobLaws.{TasksAreSafe}
use Rattle.wc_soundness.specs.Sets.{is_bare}
use Rattle.wc_soundness.proofs.SoundMoves.{moves_safe}

-- ---- how often a task has failed

abbrev Fits : Moved → Type 0
Fits m = fails_fit (part.Job m.part) m.paused ≡ true

by_case : (b : Bool) (x y : Moved) → (b ≡ true → Fits x) → (b ≡ false → Fits y) → Fits (if b then x else y)
by_case true x y f g = f refl
by_case false x y f g = g refl

-- fewer than five, and not four
one_more : (n : ℕ) → n < 5 → (n == 4) ≡ false → suc n < 5
one_more n lt not_four =
    elim (cases_lt n 4) [
      | inl less ↦ omega arith
      | inr le ↦
          let four : n ≡ 4 = omega arith in
          let is : (n == 4) ≡ true = eq-eqb n 4 four in
          absurd (cc (is, not_four))
    ]

failed_fits : (j : JobPart) (now : ℕ) → nat_lt j.fails 5 ≡ true → Fits (failed j now)
failed_fits j now h =
    by_case (j.fails == 4) (record { part = record { task = j.task; fails = 5; due = j.due }; paused = true })
    (record { part = record { task = j.task; fails = suc j.fails; due = saturated (now + 20000 * 2 ^ j.fails) }; paused = false }) (λ e. refl)
    (λ e. ap (λ (x : Bool). x || ((suc j.fails == 5) && false)) (lt-ltb (suc j.fails) 5 (one_more j.fails (ltb-true j.fails 5 h) e)))

starts_anew : (t : Task) (due : ℕ) (m : Moved) → Some (record { part = record { task = t; fails = 0; due = due }; paused = false }) ≡ Some m → Fits m
starts_anew t due m h =
    let fresh : Moved = record { part = record { task = t; fails = 0; due = due }; paused = false } in
    let same : fresh ≡ m = cc in
    subst Fits same refl

moved_fails : (j : JobPart) (t : Task) (a : TaskAnswer) (now poll : ℕ) (m : Moved) → nat_lt j.fails 5 ≡ true → after j a now poll t ≡ Some m
    → Fits m
moved_fails j t answer.Failed now poll m few h =
    let same : failed j now ≡ m = cc in
    subst Fits same (failed_fits j now few)
moved_fails j t answer.Nothing now poll m few h = absurd (cc)
moved_fails j task.Upload answer.Done now poll m few h = starts_anew task.Submit 0 m h
moved_fails j task.Submit answer.Done now poll m few h = starts_anew task.Update 0 m h
moved_fails j task.Update answer.Done now poll m few h = starts_anew task.Retrieve 0 m h
moved_fails j task.Retrieve answer.Done now poll m few h = absurd (cc)
moved_fails j task.Upload answer.Running now poll m few h = absurd (cc)
moved_fails j task.Submit answer.Running now poll m few h = absurd (cc)
moved_fails j task.Update answer.Running now poll m few h = starts_anew task.Update (saturated (now + poll)) m h
moved_fails j task.Retrieve answer.Running now poll m few h = absurd (cc)
moved_fails j t (answer.Result r) now poll m few h = absurd (cc)

-- ---- what a job fits

pub job_waits : (k : ProcessKind) (s : ProcessState) (j i : JobPart) → part_fits k s (part.Job j) ≡ true → (s ≡ state.Waiting) × (waits k (part.Job i) ≡ true)
job_waits k state.Created j i h = absurd (cc)
job_waits kind.Function state.Running j i h = absurd (cc)
job_waits kind.Job state.Running j i h = absurd (cc)
job_waits kind.Chain state.Running j i h = absurd (cc)
job_waits kind.Function state.Waiting j i h = absurd (cc)
job_waits kind.Job state.Waiting j i h = (refl, refl)
job_waits kind.Chain state.Waiting j i h = absurd (cc)
job_waits k (state.Finished n) j i h = absurd (cc)
job_waits k (state.Excepted reason) j i h = absurd (cc)
job_waits k state.Killed j i h = absurd (cc)

created_waits : state.Waiting ≡ state.Created → ⊥
created_waits h = cc

waiting_runs : state.Waiting ≡ state.Running → ⊥
waiting_runs h = cc

not_paused : (b c : Bool) → not b && c ≡ true → b ≡ false
not_paused true c h = absurd (cc)
not_paused false c h = refl

fewer_than_five : (a b : Bool) → (a || (b && false)) ≡ true → a ≡ true
fewer_than_five true b h = refl
fewer_than_five false true h = absurd (cc)
fewer_than_five false false h = absurd (cc)

-- the request of a job is recorded
pub request_is : (w : World) (r : ProcessRecord) (j : Job) (q : Request) → its_definition w r ≡ Some (definition.Job j) → request j (recorded_inputs w r.node) ≡ Gives q
    → recorded_request w r ≡ Some (Gives q)
request_is w r j q d e =
    ap (λ (x : Option Definition). request_by x (recorded_inputs w r.node)) d ∙ ap (λ (x : Outcome Request). Some x) e

pub tasks_safe : TasksAreSafe
tasks_safe poll now w r j p q a m s found ready d is asked moved =
    let stands : Stands w r = found_holds (Stands w) r.node w.records r s.consistent.records found in
    let here = job_waits r.kind r.state p m.part (ap (part_fits r.kind r.state) (sym is) ∙ stands.part) in
    let live : has_ended r.state ≡ false = ap has_ended here.0 in
    let playing : r.paused ≡ false = not_paused r.paused (may_go w now r.state r.part) ready in
    let few : nat_lt p.fails 5 ≡ true
    = fewer_than_five (nat_lt p.fails 5) (p.fails == 5) ((λ i. fails_fit (sym is i) (sym playing i)) ∙ stands.fails) in
    let again : fails_fit (part.Job m.part) m.paused ≡ true = moved_fails p p.task a now poll m few moved in
    moves_safe w r state.Waiting m.paused (part.Job m.part) s found
    (record { fits = λ i. not (live i) && (here.1 i && (again i && true)); goes_on = refl; counted = ap counted_calls (sym is) })
    (record {
      alike = inr (ap is_bare is, refl);
      running = λ e. absurd (waiting_runs e);
      created = λ e. absurd (created_waits e);
      asked = λ e. (q, request_is w r j q d asked);
      starts = λ was ne. absurd (created_waits (sym here.0 ∙ was));
    })
