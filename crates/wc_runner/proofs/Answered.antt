-- What is known of the answers of a transport.
use Rattle.std.proofs.Common.{◌≡◌, ◌⊎◌, inl, inr, ℕ, true, Option, Some, None, Result, Ok, Err, refl, sym, subst}
use Rattle.std.specs.Prelude.{IfErr, IfOk}
use Rattle.wc_io.specs.Counts.{RisesByOne}
use Rattle.wc_value.specs.declared.process.JobResult.{JobResult}
use Rattle.wc_value.specs.declared.process.Request.{Request}
use Rattle.wc_state.specs.declared.record.Task.{Task}
use Rattle.wc_state.specs.declared.record.Task.TheVariants as task
use Rattle.wc_transport.specs.Outside.{Reply, Done, BothTold, CountsTaskFault, Holds, Places, WhereTold, task_reply, update_reply, retrieve_reply}
use Rattle.wc_transport.specs.declared.error.TaskError.{TaskError}
use Rattle.wc_transport.specs.declared.error.TaskError.TheVariants as error
use Rattle.wc_transport.specs.declared.transport.Progress.{Progress}
use Rattle.wc_transport.specs.declared.transport.Progress.TheVariants as progress
use Rattle.wc_machine.specs.declared.answer.TaskAnswer.{TaskAnswer}
use Rattle.wc_machine.specs.declared.answer.TaskAnswer.TheVariants as answer
use Rattle.wc_machine.specs.Questions.{fits_task}
use Rattle.wc_runner.specs.declared.error.RunError.{RunError}
use Rattle.wc_runner.specs.declared.error.RunError.TheVariants.{OutOfMemory}
use Rattle.wc_runner.specs.Asked.{MayHold, PlacesOwn}
use Rattle.wc_runner.specs.Outside.{IsAnswer, IsKnown, Outside, answer_of}

-- what holds of each answer that a reply is holds of the one that was made of it
pub given_by : (reply : Reply) (result : Result TaskAnswer RunError) (P : TaskAnswer → Type 0) → IsAnswer reply result
    → ((a : TaskAnswer) → answer_of reply ≡ Some a → P a) → IfOk result P
given_by reply (Ok a) P is h = h a is
given_by reply (Err e) P is h = tt

pub memory_by : (reply : Reply) (result : Result TaskAnswer RunError) → IsAnswer reply result → IfErr result (λ e. e ≡ OutOfMemory)
memory_by reply (Ok a) is = tt
memory_by reply (Err e) is = is.1

pub ok_map : {A E : Type 0} (r : Result A E) (P Q : A → Type 0) → ((a : A) → P a → Q a) → IfOk r P → IfOk r Q
ok_map (Ok a) P Q more h = more a h
ok_map (Err e) P Q more h = tt

-- ---- the answer of a call

module _ (o : Outside) (q : Request) (a : TaskAnswer) (old new : ℕ) (rises : RisesByOne old new → o.failed) where
  pub done_known : {T : Type 0} (r : Result T TaskError) → CountsTaskFault r old new → answer_of (task_reply r) ≡ Some a → IsKnown o q a
  done_known (Ok u) cause e = let same : answer.Done ≡ a = cc in subst (IsKnown o q) same tt
  done_known (Err error.Failed) cause e = let same : answer.Failed ≡ a = cc in subst (IsKnown o q) same (rises cause)
  done_known (Err error.OutOfMemory) cause e = absurd (cc)

  pub progress_known : (r : Result Progress TaskError) → CountsTaskFault r old new → answer_of (update_reply r) ≡ Some a → IsKnown o q a
  progress_known (Ok progress.Running) cause e = let same : answer.Running ≡ a = cc in subst (IsKnown o q) same tt
  progress_known (Ok progress.Done) cause e = let same : answer.Done ≡ a = cc in subst (IsKnown o q) same tt
  progress_known (Err error.Failed) cause e = let same : answer.Failed ≡ a = cc in subst (IsKnown o q) same (rises cause)
  progress_known (Err error.OutOfMemory) cause e = absurd (cc)

  pub brought_known : (r : Result JobResult TaskError) → IfOk r (o.brings q) → CountsTaskFault r old new → answer_of (retrieve_reply r) ≡ Some a → IsKnown o q a
  brought_known (Ok result) row cause e = let same : answer.Result result ≡ a = cc in subst (IsKnown o q) same row
  brought_known (Err error.Failed) row cause e = let same : answer.Failed ≡ a = cc in subst (IsKnown o q) same (rises cause)
  brought_known (Err error.OutOfMemory) row cause e = absurd (cc)

-- ---- the answer fits the task

pub done_fits : {T : Type 0} (t : Task) (r : Result T TaskError) (a : TaskAnswer) → fits_task t answer.Done ≡ true → answer_of (task_reply r) ≡ Some a → fits_task t a ≡ true
done_fits t (Ok u) a fits e = let same : answer.Done ≡ a = cc in subst (λ (x : TaskAnswer). fits_task t x ≡ true) same fits
done_fits t (Err error.Failed) a fits e = let same : answer.Failed ≡ a = cc in subst (λ (x : TaskAnswer). fits_task t x ≡ true) same refl
done_fits t (Err error.OutOfMemory) a fits e = absurd (cc)

pub progress_fits : (r : Result Progress TaskError) (a : TaskAnswer) → answer_of (update_reply r) ≡ Some a → fits_task task.Update a ≡ true
progress_fits (Ok progress.Running) a e = let same : answer.Running ≡ a = cc in subst (λ (x : TaskAnswer). fits_task task.Update x ≡ true) same refl
progress_fits (Ok progress.Done) a e = let same : answer.Done ≡ a = cc in subst (λ (x : TaskAnswer). fits_task task.Update x ≡ true) same refl
progress_fits (Err error.Failed) a e = let same : answer.Failed ≡ a = cc in subst (λ (x : TaskAnswer). fits_task task.Update x ≡ true) same refl
progress_fits (Err error.OutOfMemory) a e = absurd (cc)

pub brought_fits : (r : Result JobResult TaskError) (a : TaskAnswer) → answer_of (retrieve_reply r) ≡ Some a → fits_task task.Retrieve a ≡ true
brought_fits (Ok result) a e = let same : answer.Result result ≡ a = cc in subst (λ (x : TaskAnswer). fits_task task.Retrieve x ≡ true) same refl
brought_fits (Err error.Failed) a e = let same : answer.Failed ≡ a = cc in subst (λ (x : TaskAnswer). fits_task task.Retrieve x ≡ true) same refl
brought_fits (Err error.OutOfMemory) a e = absurd (cc)

-- ---- counts and directories

pub rises_or_stays : {T : Type 0} (r : Result T TaskError) (old new : ℕ) → CountsTaskFault r old new → (new ≡ old) ⊎ RisesByOne old new
rises_or_stays (Ok u) old new cause = inl cause
rises_or_stays (Err error.Failed) old new cause = inr cause
rises_or_stays (Err error.OutOfMemory) old new cause = inl cause

pub told_weaker : {A : Type 0} (R S : A → A → Type 0) → ((a b : A) → R a b → S a b) → (o p : Option A) → BothTold R o p → BothTold S o p
told_weaker R S weaker None None h = tt
told_weaker R S weaker None (Some b) h = h
told_weaker R S weaker (Some a) None h = h
told_weaker R S weaker (Some a) (Some b) h = weaker a b h

pub told_same : {A : Type 0} (R : A → A → Type 0) → ((a : A) → R a a) → (o p : Option A) → p ≡ o → BothTold R o p
told_same R itself o p same = subst (BothTold R o) (sym same) (at o)
  where
    at : (x : Option _) → BothTold R x x
    at None = tt
    at (Some a) = itself a

-- an upload places the process's own request
pub uploads_own : {T : Type 0} (pid : ℕ) (q : Request) (r : Result T TaskError) (old new : ℕ → Option Request) → Places pid q r old new → PlacesOwn pid task.Upload q old new
uploads_own pid q r old new p = record { others = p.others; own = p.at_most }

-- where it is done, the directory holds it
pub done_holds : {T : Type 0} (dir : ℕ) (q : Request) (r : Result T TaskError) (o p : Option (ℕ → Option Request)) → BothTold (Places dir q r) o p
    → task_reply r ≡ Done → WhereTold (Holds dir q) p
done_holds dir q r None None h done = tt
done_holds dir q r None (Some new) h done = absurd h
done_holds dir q r (Some old) None h done = absurd h
done_holds dir q (Ok u) (Some old) (Some new) h done = h.placed
done_holds dir q (Err error.Failed) (Some old) (Some new) h done = absurd (cc)
done_holds dir q (Err error.OutOfMemory) (Some old) (Some new) h done = absurd (cc)

-- no request is placed
pub places_none : (pid : ℕ) (t : Task) (q : Request) → ((x : Option Request) → MayHold t q x x) → (placed : ℕ → Option Request) → PlacesOwn pid t q placed placed
places_none pid t q holds placed = record { others = λ dir other. refl; own = holds (placed pid) }
