-- An answer that one outside gave, seen by another, and a turn with an answer that is known.
use Rattle.std.proofs.Common.{◌≡◌, inl, inr, ℕ, true, List, Option, Some, None, sym, subst, ◌∙◌}
use Rattle.std.specs.Prelude.{IfSome}
use Rattle.wc_value.specs.declared.process.JobResult.{JobResult}
use Rattle.wc_value.specs.declared.process.Request.{Request}
use Rattle.wc_journal.specs.declared.journal.Journal.{Journal}
use Rattle.wc_state.specs.declared.record.Limits.{Limits}
use Rattle.wc_state.specs.declared.record.ProcessRecord.{ProcessRecord}
use Rattle.wc_state.specs.declared.record.Task.{Task}
use Rattle.wc_transport.specs.Outside.{Reply}
use Rattle.wc_world.specs.declared.change.Change.{Change}
use Rattle.wc_world.specs.World.{World}
use Rattle.wc_world.specs.Applied.{applied}
use Rattle.wc_world.specs.Records.{find_record}
use Rattle.wc_machine.specs.declared.answer.TaskAnswer.{TaskAnswer}
use Rattle.wc_machine.specs.declared.answer.TaskAnswer.TheVariants as answer
use Rattle.wc_machine.specs.Machine.{Leads, turn}
use Rattle.wc_machine.specs.Questions.{Need, nothing, performs, need, fits}
use Rattle.wc_machine.specs.Refusals.{HasRoom, IsFull}
use Rattle.wc_store.specs.Refusals.{RefusesCommit}
use Rattle.wc_store.specs.declared.error.StoreError.{StoreError}
use Rattle.wc_store.specs.declared.error.StoreError.TheVariants as store_error
use Rattle.wc_pool.specs.Fits.{FitsNeed}
use Rattle.wc_runner.specs.Outside.{Outside, Answers, AnswersNeed, IsKnown}
use Rattle.wc_runner.specs.Refusals.{RefusesItsCommit, RefusesStep}
use Rattle.wc_runner.specs.Trips.{IsTurn, TurnOf}
use Rattle.wc_runner.specs.declared.error.RunError.{RunError}
use Rattle.wc_runner.specs.declared.error.RunError.TheVariants.{DiskFault, Full, OutOfMemory}
use Rattle.wc_runner.proofs.Taken.{what_it_needs}
use Rattle.wc_workers.specs.Steps.{given}

-- ---- answers

-- All that is known of answers by the one is known by the other.
pub record Tells (o p : Outside) : Type 0 where
  pub gave : (dir : ℕ) (t : Task) (q : Request) (reply : Reply) → o.gave dir t q reply → p.gave dir t q reply
  pub brings : (q : Request) (result : JobResult) → o.brings q result → p.brings q result
  pub failed : o.failed → p.failed

module _ (o p : Outside) (tells : Tells o p) where
  known : (q : Request) (a : TaskAnswer) → IsKnown o q a → IsKnown p q a
  known q answer.Nothing h = tt
  known q answer.Failed h = tells.failed h
  known q answer.Running h = tt
  known q answer.Done h = tt
  known q (answer.Result result) h = tells.brings q result h

  answers_need : (pid : ℕ) (n : Need) (a : TaskAnswer) → AnswersNeed o pid n a → AnswersNeed p pid n a
  answers_need pid nothing a h = h
  answers_need pid (performs t q) a h = record { reply = h.reply; gave = tells.gave pid t q h.reply h.gave; answered = h.answered; known = known q a h.known }

  pub answers_told : (w : World) (pid : ℕ) (a : TaskAnswer) → Answers o w pid a → Answers p w pid a
  answers_told w pid a h = at (find_record pid w.records) h
    where
      at : (r : Option ProcessRecord) → IfSome r (λ x. AnswersNeed o pid (need w x) a) → IfSome r (λ x. AnswersNeed p pid (need w x) a)
      at None k = k
      at (Some r) k = answers_need pid (need w r) a k

-- ---- turns with an answer that is known

only_need : (limits : Limits) (now pid : ℕ) (n : Need) (a b : TaskAnswer) → fits n a ≡ true → AnswersNeed (given a limits now) pid n b → b ≡ a
only_need limits now pid nothing answer.Nothing b h is = is
only_need limits now pid nothing answer.Failed b h is = absurd (cc)
only_need limits now pid nothing answer.Running b h is = absurd (cc)
only_need limits now pid nothing answer.Done b h is = absurd (cc)
only_need limits now pid nothing (answer.Result r) b h is = absurd (cc)
only_need limits now pid (performs t q) a b h is = let e : Some a ≡ Some b = sym is.gave ∙ is.answered in cc

module _ (limits : Limits) (now : ℕ) (w : World) (pid : ℕ) (a : TaskAnswer) (o : Outside) (f : FitsNeed w pid a) (answered : Answers o w pid a) (said : o.said now)
    (same : limits ≡ o.limits) where
  -- no other answer was given
  only : (b : TaskAnswer) → Answers (given a limits now) w pid b → b ≡ a
  only b h = only_need limits now pid (need w f.process) a b f.fitting (what_it_needs w pid (λ n. AnswersNeed (given a limits now) pid n b) f.process f.found h)

  turn_given : (cs : List Change) → IsTurn (given a limits now) pid w cs → IsTurn o pid w cs
  turn_given cs t = record {
    moment = now;
    said = said;
    answer = a;
    answered = answered;
    leads = subst (λ (l : Limits). Leads l.poll_ms w (turn pid a now) cs) same
        (subst (λ (b : TaskAnswer). Leads limits.poll_ms w (turn pid b now) cs) (only t.answer t.answered)
        (subst (λ (m : ℕ). Leads limits.poll_ms w (turn pid t.answer m) cs) t.said t.leads));
  }

  pub turn_of_given : (v : World) → TurnOf (given a limits now) pid w v → TurnOf o pid w v
  turn_of_given v t = record { changes = t.changes; turn = turn_given t.changes t.turn; accepted = t.accepted; after = t.after }

  commit_given : (journal : Journal) (e : StoreError) → RefusesItsCommit (given a limits now) journal w pid e → RefusesItsCommit o journal w pid e
  commit_given journal e h = record {
    changes = h.changes;
    turn = turn_given h.changes h.turn;
    accepted = h.accepted;
    room = subst (λ (l : Limits). HasRoom l.max_nodes (applied w h.changes)) same h.room;
    refused = subst (λ (l : Limits). RefusesCommit journal l w h.changes e) same h.refused;
  }

  pub refused_given : (journal : Journal) (e : RunError) → RefusesStep (given a limits now) journal w pid e → RefusesStep o journal w pid e
  refused_given journal DiskFault h = commit_given journal store_error.DiskFault h
  refused_given journal (Full what count limit) (inl h) =
      inl (h.0, turn_given h.0 h.1, subst (λ (l : Limits). IsFull l.max_nodes (applied w h.0) what count limit) same h.2)
  refused_given journal (Full what count limit) (inr h) = inr (commit_given journal (store_error.Full what count limit) h)
  refused_given journal OutOfMemory h = tt
