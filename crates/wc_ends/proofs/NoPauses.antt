-- A turn whose task doesn't fail and whose program has ended gives no pause mark.
use Rattle.std.proofs.Common.{◌≡◌, ℕ, Bool, true, false, Option, Some, None, get_or, refl, sym, ap, ◌∙◌}
use Rattle.std.specs.Prelude.{All, IfSome}
use Rattle.wc_value.specs.declared.process.Request.{Request}
use Rattle.wc_state.specs.declared.record.ProcessRecord.{ProcessRecord}
use Rattle.wc_world.specs.Records.{find_record, has_ended}
use Rattle.wc_world.specs.World.{World}
use Rattle.wc_world.proofs.FoundRecords.{found_holds}
use Rattle.wc_world.proofs.ReachedLists.{found_node, unique}
use Rattle.wc_machine.specs.declared.answer.TaskAnswer.{TaskAnswer}
use Rattle.wc_machine.specs.declared.answer.TaskAnswer.TheVariants as answer
use Rattle.wc_machine.specs.Questions.{Need, need, nothing, performs}
use Rattle.wc_machine.specs.Continues.{Continues}
use Rattle.wc_machine.specs.Sound.{IsSound}
use Rattle.wc_soundness.proofs.LaterTables.{record_kept}
use Rattle.wc_runner.specs.Marks.{AreNoWorse, IsNoWorse, is_paused}
use Rattle.wc_runner.specs.Outside.{Answers, AnswersNeed, IsKnown, Outside}
use Rattle.wc_runner.specs.Trips.{TurnOf, none, one_more}
use Rattle.wc_runner.proofs.Marked.{turns_no_worse}
use Rattle.wc_cost.specs.Turns.{IsCalm}
use Rattle.wc_ends.proofs.HeldUp.{Plays}

module _ (o : Outside) where
  -- the same outside, in which nothing failed
  abbrev unfailed : Outside
  unfailed = record { said = o.said; gave = o.gave; brings = o.brings; failed = ⊥; limits = o.limits }

  known : (q : Request) (a : TaskAnswer) → IsCalm a → IsKnown o q a → IsKnown unfailed q a
  known q answer.Nothing calm h = tt
  known q answer.Failed calm h = calm
  known q answer.Running calm h = tt
  known q answer.Done calm h = tt
  known q (answer.Result result) calm h = h

  answers_need : (pid : ℕ) (n : Need) (a : TaskAnswer) → IsCalm a → AnswersNeed o pid n a → AnswersNeed unfailed pid n a
  answers_need pid nothing a calm h = h
  answers_need pid (performs t q) a calm h = record { reply = h.reply; gave = h.gave; answered = h.answered; known = known q a calm h.known }

  answers : (w : World) (pid : ℕ) (a : TaskAnswer) → IsCalm a → Answers o w pid a → Answers unfailed w pid a
  answers w pid a calm h = at (find_record pid w.records) h
    where
      at : (r : Option ProcessRecord) → IfSome r (λ x. AnswersNeed o pid (need w x) a) → IfSome r (λ x. AnswersNeed unfailed pid (need w x) a)
      at None k = k
      at (Some r) k = answers_need pid (need w r) a calm k

  turn_unfailed : (pid : ℕ) (w v : World) (t : TurnOf o pid w v) → IsCalm t.turn.answer → TurnOf unfailed pid w v
  turn_unfailed pid w v t calm = record {
    changes = t.changes;
    turn = record {
      moment = t.turn.moment;
      said = t.turn.said;
      answer = t.turn.answer;
      answered = answers w pid t.turn.answer calm t.turn.answered;
      leads = t.turn.leads;
    };
    accepted = t.accepted;
    after = t.after;
  }

  pub no_worse : (pid : ℕ) (w v : World) (t : TurnOf o pid w v) → IsCalm t.turn.answer → AreNoWorse w v
  no_worse pid w v t calm = turns_no_worse unfailed (λ x. x) 1 0 w v (one_more 0 0 w w v (none w) (pid, turn_unfailed pid w v t calm))

-- ---- so the live processes still play

module _ (v w : World) (s : IsSound v) (c : Continues v w) (marks : AreNoWorse v w) (plays : All Plays v.records) where
  was_paused : (r : ProcessRecord) → find_record r.node w.records ≡ Some r → has_ended r.state ≡ false → r.paused ≡ true → ⊥
  was_paused r found live paused = at (find_record r.node v.records) refl (own.paused (ap is_paused found ∙ paused))
    where
      own : IsNoWorse (find_record r.node v.records) (find_record r.node w.records)
      own = marks r.node

      over : (x : ProcessRecord) → find_record r.node v.records ≡ Some x → has_ended x.state ≡ true → ⊥
      over x is ended =
          let number : x.node ≡ r.node = found_node r.node v.records x is in
          let itself : find_record x.node v.records ≡ Some x = ap (λ (n : ℕ). find_record n v.records) number ∙ is in
          let again : Some x ≡ Some r = sym (record_kept v w s c x itself ended) ∙ ap (λ (n : ℕ). find_record n w.records) number ∙ found in
          let same : x ≡ r = cc in
          let both : true ≡ false = sym ended ∙ ap (λ (y : ProcessRecord). has_ended y.state) same ∙ live in
          cc both

      at : (o : Option ProcessRecord) → find_record r.node v.records ≡ o → is_paused o ≡ true → ⊥
      at None is p = cc p
      at (Some x) is p = by (has_ended x.state) refl
        where
          by : (b : Bool) → has_ended x.state ≡ b → ⊥
          by true ended = over x is ended
          by false lives = let free : x.paused ≡ false = found_holds Plays r.node v.records x plays is lives in cc (p, free)

  plays_each : (r : ProcessRecord) → find_record r.node w.records ≡ Some r → Plays r
  plays_each r found live = by r.paused refl
    where
      by : (b : Bool) → r.paused ≡ b → b ≡ false
      by true p = absurd (was_paused r found live p)
      by false p = refl

  pub plays_on : IsSound w → All Plays w.records
  plays_on later i d lt = plays_each (get_or w.records i d) (unique 1 w.nodes w.records later.consistent.numbered i d lt)
