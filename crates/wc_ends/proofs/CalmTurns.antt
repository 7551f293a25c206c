-- What a turn sets whose task doesn't fail and whose program has ended.
use Rattle.std.proofs.Common.{◌≡◌, ℕ, false, List, [], Some, None, refl, subst}
use Rattle.wc_semantics.specs.Outcomes.{excepted, calculated, parsed}
use Rattle.wc_state.specs.declared.record.JobPart.{JobPart}
use Rattle.wc_state.specs.declared.record.ProcessRecord.{ProcessRecord}
use Rattle.wc_state.specs.declared.record.Task.{Task}
use Rattle.wc_state.specs.declared.record.Task.TheVariants as task
use Rattle.wc_records.specs.Readiness.{due_of}
use Rattle.wc_records.specs.declared.change.SetProcess.{SetProcess}
use Rattle.wc_world.specs.declared.change.Change.{Change}
use Rattle.wc_world.specs.World.{World}
use Rattle.wc_machine.specs.declared.answer.TaskAnswer.{TaskAnswer}
use Rattle.wc_machine.specs.declared.answer.TaskAnswer.TheVariants as answer
use Rattle.wc_machine.specs.Advances.{advance}
use Rattle.wc_machine.specs.Ends as ending
use Rattle.wc_machine.specs.Recorded.{recorded_inputs}
use Rattle.wc_machine.specs.Tasks.{Moved, after}
use Rattle.wc_machine.specs.Turns.{TurnGives, calculates, clones, begins, excepts, gives_up, moves, parses, advances, binds}
use Rattle.wc_runner.proofs.Sets.{AllSuit, advanced_suits, ends_suit}
use Rattle.wc_cost.specs.Turns.{IsCalm}

-- nothing is waited for
abbrev pub SetsNoDue : SetProcess → Type 0
SetsNoDue s = due_of s.part ≡ 0

same_due : (n m : Moved) → n.part.due ≡ 0 → Some n ≡ Some m → m.part.due ≡ 0
same_due n m none e = let same : n ≡ m = cc in subst (λ (x : Moved). x.part.due ≡ 0) same none

abbrev at_once : Task → Moved
at_once t = record { part = record { task = t; fails = 0; due = 0 }; paused = false }

moved_due : (j : JobPart) (a : TaskAnswer) (now poll : ℕ) (t : Task) (m : Moved) → IsCalm a → after j a now poll t ≡ Some m → m.part.due ≡ 0
moved_due j answer.Failed now poll t m calm e = absurd calm
moved_due j answer.Running now poll t m calm e = absurd calm
moved_due j answer.Nothing now poll t m calm e = absurd (cc)
moved_due j answer.Done now poll task.Upload m calm e = same_due (at_once task.Submit) m refl e
moved_due j answer.Done now poll task.Submit m calm e = same_due (at_once task.Update) m refl e
moved_due j answer.Done now poll task.Update m calm e = same_due (at_once task.Retrieve) m refl e
moved_due j answer.Done now poll task.Retrieve m calm e = absurd (cc)
moved_due j (answer.Result result) now poll t m calm e = absurd (cc)

pub turn_sets_no_due : (poll now : ℕ) (w : World) (r : ProcessRecord) (a : TaskAnswer) (cs : List Change) → IsCalm a → TurnGives poll now w r a cs → AllSuit SetsNoDue cs
turn_sets_no_due poll now w r a cs calm (calculates f d is takes) = ends_suit SetsNoDue w r (calculated f (recorded_inputs w r.node)) None None refl
turn_sets_no_due poll now w r a cs calm (clones q calc is takes there) = ends_suit SetsNoDue w r (ending.come_to w q) (Some q.node) None refl
turn_sets_no_due poll now w r a cs calm (begins j q d is takes asked) = (refl, tt)
turn_sets_no_due poll now w r a cs calm (excepts j reason d is takes asked) = ends_suit SetsNoDue w r (excepted reason []) None None refl
turn_sets_no_due poll now w r a cs calm (gives_up j p reason d at asked) = ends_suit SetsNoDue w r (excepted reason []) None None refl
turn_sets_no_due poll now w r a cs calm (moves j p q b m d at asked next) = (moved_due p b now poll p.task m calm next, tt)
turn_sets_no_due poll now w r a cs calm (parses j p q result d at asked is) = ends_suit SetsNoDue w r (parsed j (recorded_inputs w r.node) result) None (Some result.code) refl
turn_sets_no_due poll now w r a cs calm (advances k library c env d l at e) =
    advanced_suits SetsNoDue w r (λ s fuel d. refl) (λ s fuel. refl) k.head.outputs (advance library k r.depth env c)
turn_sets_no_due poll now w r a cs calm (binds k c d is at) = (refl, tt)
