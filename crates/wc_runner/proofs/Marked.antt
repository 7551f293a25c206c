-- Where nothing failed, no process gets a pause mark and none has failed more often.
use Rattle.std.proofs.Common.{◌≡◌, ℕ, ◌+◌, true, false, List, [], Option, Some, None, refl, sym, subst, ◌∙◌, arith}
use Rattle.std.specs.Prelude.{IfSome}
use Rattle.wc_semantics.specs.Outcomes.{excepted, calculated, parsed}
use Rattle.wc_state.specs.declared.record.JobPart.{JobPart}
use Rattle.wc_state.specs.declared.record.ProcessRecord.{ProcessRecord}
use Rattle.wc_state.specs.declared.record.Task.{Task}
use Rattle.wc_state.specs.declared.record.Task.TheVariants as task
use Rattle.wc_records.specs.declared.change.Kept.{Kept}
use Rattle.wc_records.specs.declared.change.NewProcess.{NewProcess}
use Rattle.wc_records.specs.declared.change.SetProcess.{SetProcess}
use Rattle.wc_world.specs.declared.change.Change.{Change}
use Rattle.wc_world.specs.World.{World}
use Rattle.wc_world.specs.Applied.{begun, changed, keep, made, set}
use Rattle.wc_world.specs.Records.{find_record}
use Rattle.wc_machine.specs.declared.answer.TaskAnswer.{TaskAnswer}
use Rattle.wc_machine.specs.declared.answer.TaskAnswer.TheVariants as answer
use Rattle.wc_machine.specs.Advances.{advance}
use Rattle.wc_machine.specs.Questions.{Need, nothing, performs, need}
use Rattle.wc_machine.specs.Ends as ending
use Rattle.wc_machine.specs.Machine.{turn}
use Rattle.wc_machine.specs.Recorded.{recorded_inputs}
use Rattle.wc_machine.specs.Tasks.{Moved, after, saturated}
use Rattle.wc_machine.specs.Turns.{TurnGives, calculates, clones, begins, excepts, gives_up, moves, parses, advances, binds}
use Rattle.wc_runner.specs.Marks.{AreNoWorse, IsNoWorse, fails_in}
use Rattle.wc_runner.specs.Outside.{Outside, AnswersNeed, IsKnown}
use Rattle.wc_runner.specs.Trips.{TurnOf, Turns, none, one_more, one_rest}
use Rattle.wc_runner.proofs.Sets.{AllSuit, advanced_suits, changes_leave, ends_suit, gives_turn}

-- ---- calm changes

-- it sets no pause mark and no failure
abbrev IsCalm : SetProcess → Type 0
IsCalm s = (s.paused ≡ false) × (fails_in s.part ≡ 0)

same_calm : (n m : Moved) → n.paused ≡ false → n.part.fails ≡ 0 → Some n ≡ Some m → (m.paused ≡ false) × (m.part.fails ≡ 0)
same_calm n m free bare e = let same : n ≡ m = cc in subst (λ (x : Moved). (x.paused ≡ false) × (x.part.fails ≡ 0)) same (free, bare)

abbrev at_task : Task → ℕ → Moved
at_task t due = record { part = record { task = t; fails = 0; due = due }; paused = false }

-- a task that didn't fail is followed by one that hasn't failed
moved_calm : (j : JobPart) (a : TaskAnswer) (now poll : ℕ) (t : Task) (m : Moved) → (a ≡ answer.Failed → ⊥) → after j a now poll t ≡ Some m
    → (m.paused ≡ false) × (m.part.fails ≡ 0)
moved_calm j answer.Failed now poll t m ok e = absurd (ok refl)
moved_calm j answer.Nothing now poll t m ok e = absurd (cc)
moved_calm j answer.Done now poll task.Upload m ok e = same_calm (at_task task.Submit 0) m refl refl e
moved_calm j answer.Done now poll task.Submit m ok e = same_calm (at_task task.Update 0) m refl refl e
moved_calm j answer.Done now poll task.Update m ok e = same_calm (at_task task.Retrieve 0) m refl refl e
moved_calm j answer.Done now poll task.Retrieve m ok e = absurd (cc)
moved_calm j answer.Running now poll task.Upload m ok e = absurd (cc)
moved_calm j answer.Running now poll task.Submit m ok e = absurd (cc)
moved_calm j answer.Running now poll task.Update m ok e = same_calm (at_task task.Update (saturated (now + poll))) m refl refl e
moved_calm j answer.Running now poll task.Retrieve m ok e = absurd (cc)
moved_calm j (answer.Result result) now poll t m ok e = absurd (cc)

turn_calm : (poll now : ℕ) (w : World) (r : ProcessRecord) (a : TaskAnswer) (cs : List Change) → (a ≡ answer.Failed → ⊥) → TurnGives poll now w r a cs → AllSuit IsCalm cs
turn_calm poll now w r a cs ok (calculates f d is takes) = ends_suit IsCalm w r (calculated f (recorded_inputs w r.node)) None None (refl, refl)
turn_calm poll now w r a cs ok (clones q calc is takes there) = ends_suit IsCalm w r (ending.come_to w q) (Some q.node) None (refl, refl)
turn_calm poll now w r a cs ok (begins j q d is takes asked) = ((refl, refl), tt)
turn_calm poll now w r a cs ok (excepts j reason d is takes asked) = ends_suit IsCalm w r (excepted reason []) None None (refl, refl)
turn_calm poll now w r a cs ok (gives_up j p reason d at asked) = ends_suit IsCalm w r (excepted reason []) None None (refl, refl)
turn_calm poll now w r a cs ok (moves j p q b m d at asked next) = (moved_calm p b now poll p.task m ok next, tt)
turn_calm poll now w r a cs ok (parses j p q result d at asked is) =
    ends_suit IsCalm w r (parsed j (recorded_inputs w r.node) result) None (Some result.code) (refl, refl)
turn_calm poll now w r a cs ok (advances k library c env d l at e) =
    advanced_suits IsCalm w r (λ s fuel d. (refl, refl)) (λ s fuel. (refl, refl)) k.head.outputs (advance library k r.depth env c)
turn_calm poll now w r a cs ok (binds k c d is at) = ((refl, refl), tt)

-- ---- what they leave

no_worse : (o : Option ProcessRecord) → IsNoWorse o o
no_worse o = record { paused = λ h. h; fails = omega arith }

pub no_worse_on : (a b c : Option ProcessRecord) → IsNoWorse a b → IsNoWorse b c → IsNoWorse a c
no_worse_on a b c first second = record { paused = λ h. first.paused (second.paused h); fails = omega (arith, first.fails, second.fails) }

-- a process that is new has no mark and no failure
born : (number : ℕ) (n : NewProcess) → IsNoWorse None (Some (made number n))
born number n = record { paused = λ h. h; fails = omega arith }

set_calm : (b : ℕ) (s : SetProcess) → IsCalm s → (r : ProcessRecord) → IsNoWorse (Some r) (Some (set b s r))
set_calm b s h r = record { paused = λ k. let both : true ≡ false = sym k ∙ h.0 in absurd (cc); fails = omega (arith, h.1) }

kept_same : (k : Kept) (r : ProcessRecord) → IsNoWorse (Some r) (Some (keep k r))
kept_same k r = record { paused = λ e. e; fails = omega arith }

changes_no_worse : (b : ℕ) (w : World) (cs : List Change) → AllSuit IsCalm cs → AreNoWorse w (changed b w cs)
changes_no_worse b w cs h = changes_leave IsCalm IsNoWorse no_worse no_worse_on born set_calm kept_same b w cs h

-- ---- turns

-- an answer that failed raised the count of faults
never_failed : (o : Outside) (pid : ℕ) (n : Need) (a : TaskAnswer) → (o.failed → ⊥) → AnswersNeed o pid n a → a ≡ answer.Failed → ⊥
never_failed o pid nothing a ok h e = cc (h, e)
never_failed o pid (performs t q) a ok h e = ok (subst (IsKnown o q) e h.known)

turn_no_worse : (o : Outside) (pid : ℕ) (w v : World) → (o.failed → ⊥) → TurnOf o pid w v → AreNoWorse w v
turn_no_worse o pid w v ok t =
    let given = gives_turn o.limits.poll_ms w (turn pid t.turn.answer t.turn.moment) t.changes t.turn.leads in
    let answered : AnswersNeed o pid (need w given.0) t.turn.answer
    = subst (λ (x : Option ProcessRecord). IfSome x (λ r. AnswersNeed o pid (need w r) t.turn.answer)) given.1 t.turn.answered in
    let calm : AllSuit IsCalm t.changes
    = turn_calm o.limits.poll_ms t.turn.moment w given.0 t.turn.answer t.changes (never_failed o pid (need w given.0) t.turn.answer ok answered) given.2 in
    subst (AreNoWorse w) (sym t.after) (changes_no_worse (w.batches + 1) (begun w) t.changes calm)

pub turns_no_worse : (o : Outside) → (o.failed → ⊥) → (n m : ℕ) (w v : World) → Turns o n m w v → AreNoWorse w v
turns_no_worse o ok n m w v (none x) pid = no_worse (find_record pid x.records)
turns_no_worse o ok n m w v (one_more k l x y z ts t) pid =
    no_worse_on (find_record pid x.records) (find_record pid y.records) (find_record pid z.records) (turns_no_worse o ok k l x y ts pid) (turn_no_worse o t.0 y z ok t.1 pid)
turns_no_worse o ok n m w v (one_rest k l x y ts r) pid = turns_no_worse o ok k l x y ts pid
