-- What is known of the outside grows, and a turn by what was known is one by what is known later.
use Rattle.std.proofs.Common.{◌≡◌, inl, inr, ℕ, List, Option, Some, None, subst}
use Rattle.std.specs.Prelude.{IfSome}
use Rattle.wc_value.specs.declared.process.JobResult.{JobResult}
use Rattle.wc_value.specs.declared.process.Request.{Request}
use Rattle.wc_journal.specs.declared.journal.Journal.{Journal}
use Rattle.wc_state.specs.declared.record.Limits.{Limits}
use Rattle.wc_state.specs.declared.record.ProcessRecord.{ProcessRecord}
use Rattle.wc_state.specs.declared.record.Task.{Task}
use Rattle.wc_transport.specs.Outside.{Reply}
use Rattle.wc_world.specs.declared.change.Change.{Change}
use Rattle.wc_world.specs.World.{World}
use Rattle.wc_world.specs.Records.{find_record}
use Rattle.wc_world.specs.Applied.{applied}
use Rattle.wc_machine.specs.declared.answer.TaskAnswer.{TaskAnswer}
use Rattle.wc_machine.specs.declared.answer.TaskAnswer.TheVariants as answer
use Rattle.wc_machine.specs.Questions.{Need, nothing, performs, need}
use Rattle.wc_machine.specs.Machine.{Leads, turn}
use Rattle.wc_machine.specs.Refusals.{HasRoom, IsFull}
use Rattle.wc_store.specs.Refusals.{RefusesCommit}
use Rattle.wc_store.specs.declared.error.StoreError.{StoreError}
use Rattle.wc_store.specs.declared.error.StoreError.TheVariants as store_error
use Rattle.wc_runner.specs.declared.error.RunError.{RunError}
use Rattle.wc_runner.specs.declared.error.RunError.TheVariants.{DiskFault, Full, OutOfMemory}
use Rattle.wc_runner.specs.Outside.{Outside, Answers, AnswersNeed, IsKnown}
use Rattle.wc_runner.specs.Refusals.{RefusesItsCommit, RefusesStep}
use Rattle.wc_runner.specs.Trips.{IsTurn, TurnOf, RestsAt, Turns, none, one_more, one_rest}

-- All that is known of the one is known of the other.
pub record Widens (o p : Outside) : Type 0 where
  pub said : (moment : ℕ) → o.said moment → p.said moment
  pub gave : (dir : ℕ) (t : Task) (q : Request) (reply : Reply) → o.gave dir t q reply → p.gave dir t q reply
  pub brings : (q : Request) (result : JobResult) → o.brings q result → p.brings q result
  pub failed : o.failed → p.failed
  pub limits : o.limits ≡ p.limits

module _ (o p : Outside) (wide : Widens o p) where
  known : (q : Request) (a : TaskAnswer) → IsKnown o q a → IsKnown p q a
  known q answer.Nothing h = tt
  known q answer.Failed h = wide.failed h
  known q answer.Running h = tt
  known q answer.Done h = tt
  known q (answer.Result result) h = wide.brings q result h

  answers_need : (pid : ℕ) (n : Need) (a : TaskAnswer) → AnswersNeed o pid n a → AnswersNeed p pid n a
  answers_need pid nothing a h = h
  answers_need pid (performs t q) a h = record { reply = h.reply; gave = wide.gave pid t q h.reply h.gave; answered = h.answered; known = known q a h.known }

  answers : (w : World) (pid : ℕ) (a : TaskAnswer) → Answers o w pid a → Answers p w pid a
  answers w pid a h = at (find_record pid w.records) h
    where
      at : (r : Option ProcessRecord) → IfSome r (λ x. AnswersNeed o pid (need w x) a) → IfSome r (λ x. AnswersNeed p pid (need w x) a)
      at None k = k
      at (Some r) k = answers_need pid (need w r) a k

  pub turn_widened : (pid : ℕ) (w : World) (cs : List Change) → IsTurn o pid w cs → IsTurn p pid w cs
  turn_widened pid w cs t = record {
    moment = t.moment;
    said = wide.said t.moment t.said;
    answer = t.answer;
    answered = answers w pid t.answer t.answered;
    leads = subst (λ (l : Limits). Leads l.poll_ms w (turn pid t.answer t.moment) cs) wide.limits t.leads;
  }

  pub turn_of_widened : (pid : ℕ) (w v : World) → TurnOf o pid w v → TurnOf p pid w v
  turn_of_widened pid w v t = record { changes = t.changes; turn = turn_widened pid w t.changes t.turn; accepted = t.accepted; after = t.after }

  its_commit_widened : (journal : Journal) (w : World) (pid : ℕ) (e : StoreError) → RefusesItsCommit o journal w pid e → RefusesItsCommit p journal w pid e
  its_commit_widened journal w pid e h = record {
    changes = h.changes;
    turn = turn_widened pid w h.changes h.turn;
    accepted = h.accepted;
    room = subst (λ (l : Limits). HasRoom l.max_nodes (applied w h.changes)) wide.limits h.room;
    refused = subst (λ (l : Limits). RefusesCommit journal l w h.changes e) wide.limits h.refused;
  }

  -- and one that is refused by what was known is refused by what is known later
  pub step_widened : (journal : Journal) (w : World) (pid : ℕ) (e : RunError) → RefusesStep o journal w pid e → RefusesStep p journal w pid e
  step_widened journal w pid DiskFault h = its_commit_widened journal w pid store_error.DiskFault h
  step_widened journal w pid (Full what count limit) (inl h) =
      inl (h.0, turn_widened pid w h.0 h.1, subst (λ (l : Limits). IsFull l.max_nodes (applied w h.0) what count limit) wide.limits h.2)
  step_widened journal w pid (Full what count limit) (inr h) = inr (its_commit_widened journal w pid (store_error.Full what count limit) h)
  step_widened journal w pid OutOfMemory h = tt

  pub rest_widened : (w : World) → RestsAt o w → RestsAt p w
  rest_widened w r = record { moment = r.moment; said = wide.said r.moment r.said; none = r.none; until = r.until; later = r.later; least = r.least }

  pub turns_widened : (n m : ℕ) (w v : World) → Turns o n m w v → Turns p n m w v
  turns_widened n m w v (none x) = none x
  turns_widened n m w v (one_more k l x y z ts t) = one_more k l x y z (turns_widened k l x y ts) (t.0, turn_of_widened t.0 y z t.1)
  turns_widened n m w v (one_rest k l x y ts r) = one_rest k l x y (turns_widened k l x y ts) (rest_widened y r)
