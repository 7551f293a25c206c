-- What a run sees of the outside.
use Rattle.std.specs.Prelude.{◌≡◌, ℕ, Option, Some, None, Result, Ok, Err, IfSome}
use Rattle.wc_io.specs.Counts.{Rises, RisesByOne}
use Rattle.wc_io.specs.declared.pacer.Pacer as pacer
use Rattle.wc_value.specs.declared.process.JobResult.{JobResult}
use Rattle.wc_value.specs.declared.process.Request.{Request}
use Rattle.wc_state.specs.declared.record.Limits.{Limits}
use Rattle.wc_state.specs.declared.record.Task.{Task}
use Rattle.wc_state.specs.declared.record.Task.TheVariants as task
use Rattle.wc_transport.specs.Obliging.{IsObliged}
use Rattle.wc_transport.specs.Outside.{Reply, Failed, OutOfMemory, Running, Done, Brought, Holds, IsRow, WhereTold}
use Rattle.wc_transport.specs.declared.transport.Transport as transport
use Rattle.wc_world.specs.World.{World}
use Rattle.wc_world.specs.Records.{find_record}
use Rattle.wc_machine.specs.declared.answer.TaskAnswer.{TaskAnswer}
use Rattle.wc_machine.specs.declared.answer.TaskAnswer.TheVariants as answer
use Rattle.wc_machine.specs.Questions.{Need, nothing, performs, need}
use Rattle.wc_runner.specs.declared.error.RunError.{RunError}
use Rattle.wc_runner.specs.declared.error.RunError.TheVariants as error

-- What is known of the outside: which moments were said, what was replied for a directory to a task with a request, which results may be
-- brought for a request, whether the count of the transport's faults rose, and the limits.
pub record Outside : Type 1 where
  pub said : ℕ → Type 0
  pub gave : ℕ → Task → Request → Reply → Type 0
  pub brings : Request → JobResult → Type 0
  pub failed : Type 0
  pub limits : Limits

-- the answer that a reply is; want of memory is none
abbrev pub answer_of : Reply → Option TaskAnswer
answer_of Failed = Some answer.Failed
answer_of OutOfMemory = None
answer_of Running = Some answer.Running
answer_of Done = Some answer.Done
answer_of (Brought result) = Some (answer.Result result)

-- the reply is this answer, or none where memory ran out
abbrev pub IsAnswer : Reply → Result TaskAnswer RunError → Type 0
IsAnswer reply (Ok a) = answer_of reply ≡ Some a
IsAnswer reply (Err e) = (answer_of reply ≡ None) × (e ≡ error.OutOfMemory)

-- what is known of an answer beside that it was given
abbrev pub IsKnown : Outside → Request → TaskAnswer → Type 0
IsKnown o q answer.Nothing = Unit {0}
IsKnown o q answer.Failed = o.failed
IsKnown o q answer.Running = Unit {0}
IsKnown o q answer.Done = Unit {0}
IsKnown o q (answer.Result result) = o.brings q result

-- The transport gave this answer for a directory to a task with a request. It fails only where its count of faults rose, and where it tells
-- its table, a result is the table's.
pub record IsGiven (o : Outside) (dir : ℕ) (t : Task) (q : Request) (a : TaskAnswer) : Type 0 where
  pub reply : Reply
  pub gave : o.gave dir t q reply
  pub answered : answer_of reply ≡ Some a
  pub known : IsKnown o q a

-- Where nothing is needed there is no answer, and else the one that the transport gave for the directory of the process's own number.
abbrev pub AnswersNeed : Outside → (pid : ℕ) → Need → TaskAnswer → Type 0
AnswersNeed o pid nothing a = a ≡ answer.Nothing
AnswersNeed o pid (performs t q) a = IsGiven o pid t q a

-- the outside answers so to what the process with this number needs
abbrev pub Answers : Outside → World → (pid : ℕ) → TaskAnswer → Type 0
Answers o w pid a = IfSome (find_record pid w.records) (λ r. AnswersNeed o pid (need w r) a)

-- after an upload that is done the directory holds the request, where the transport tells its directories
abbrev pub HoldsWhenDone : Task → (dir : ℕ) → Request → Reply → Option (ℕ → Option Request) → Type 0
HoldsWhenDone task.Upload dir q reply placed = reply ≡ Done → WhereTold (Holds dir q) placed
HoldsWhenDone task.Submit dir q reply placed = Unit {0}
HoldsWhenDone task.Update dir q reply placed = Unit {0}
HoldsWhenDone task.Retrieve dir q reply placed = Unit {0}

-- The transport, which was so before its call and so after it, gave this reply for a directory to a task with a request: one that is done has
-- placed what it uploads, and one of an obliging transport is as such a transport answers.
pub record IsReply {T : Type 0} (g : transport.Ghosts T) (old new : T) (dir : ℕ) (t : Task) (q : Request) (reply : Reply) : Type 0 where
  pub gave : g.gave new dir t q reply
  pub holds : HoldsWhenDone t dir q reply (g.placed new)
  pub obliged : g.obliging old → IsObliged (g.table old) (g.placed old) (g.finished old) (g.finished new) dir t q reply

-- ---- of one turn and of a run

module _ {T : Type 0} (g : transport.Ghosts T) where
  -- the result is that of the table, where the transport tells it
  abbrev pub is_told : T → Request → JobResult → Type 0
  is_told transport q result = WhereTold (IsRow q result) (g.table transport)

  -- of a turn at this moment, which found the transport so and left it so
  abbrev pub in_turn : Limits → (now : ℕ) → (old new : T) → Outside
  in_turn limits now old new = record {
    said = λ moment. moment ≡ now;
    gave = IsReply g old new;
    brings = is_told old;
    failed = RisesByOne (g.faults old) (g.faults new);
    limits = limits;
  }

  -- of a run up to now: the moments that the pacer said, and what the transport gave at the end of one of its calls
  abbrev pub in_run : {P : Type 0} → pacer.Ghosts P → Limits → (old new : T) → P → Outside
  in_run h limits old new clock = record {
    said = h.said clock;
    gave = λ dir t q reply. (after : T) × g.gave after dir t q reply;
    brings = is_told old;
    failed = Rises (g.faults old) (g.faults new);
    limits = limits;
  }
