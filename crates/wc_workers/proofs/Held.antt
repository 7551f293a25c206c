-- A turn with an answer that was got before, and a pool whose lease is the last one of its process.
use Rattle.std.proofs.Common.{◌≡◌, inl, inr, ⊎_elim, ℕ, ◌≤◌, Bool, true, false, List, Option, Some, None, Result, Ok, Err, refl, ap, ◌∙◌, arith}
use Rattle.std.specs.Prelude.{nat_lt, if◌then◌else◌, OnErr}
use Rattle.std.proofs.lemmas.Bool.{eq-eqb, lt-ltb, cases_lt}
use Rattle.wc_disk.specs.declared.disk.Disk as disk
use Rattle.wc_journal.specs.declared.journal.Journal.{Journal}
use Rattle.wc_value.specs.declared.process.Request.{Request}
use Rattle.wc_state.specs.declared.record.Limits.{Limits}
use Rattle.wc_state.specs.declared.record.Task.{Task}
use Rattle.wc_state.specs.declared.record.Task.TheVariants as task
use Rattle.wc_store.specs.declared.store.Store.{Store}
use Rattle.wc_store.specs.Stepped.{IsCommitted, IsOrCommitted, Stepped}
use Rattle.wc_store.proofs.Stepping.{weaker_step}
use Rattle.wc_transport.specs.Outside.{Failed, Running, Done, Brought}
use Rattle.wc_world.specs.World.{World}
use Rattle.wc_world.specs.declared.change.Change.{Change}
use Rattle.wc_machine.specs.declared.answer.TaskAnswer.{TaskAnswer}
use Rattle.wc_machine.specs.declared.answer.TaskAnswer.TheVariants as answer
use Rattle.wc_machine.specs.Questions.{Need, nothing, performs, need, fits, fits_task}
use Rattle.wc_pool.specs.Fits.{FitsNeed, FitsWorld}
use Rattle.wc_pool.specs.Pools.{IsSamePool, entry_at, epoch_at, is_current, lease_at, lease_in, seat_at, why_given}
use Rattle.wc_pool.specs.declared.giving.Why.{Why}
use Rattle.wc_pool.specs.declared.pool.Lease.{Lease}
use Rattle.wc_pool.specs.declared.pool.Pool.{Pool}
use Rattle.wc_pool.specs.declared.pool.Seat.TheVariants.{Answered}
use Rattle.wc_runner.specs.Asked.{WhatItNeeds}
use Rattle.wc_runner.specs.Outside.{Answers, AnswersNeed, IsGiven}
use Rattle.wc_runner.specs.Refusals.{RefusesStep, RefusesStored, is_live_after}
use Rattle.wc_runner.specs.Turns.{IsPrepared, IsReady, RefusesChanges}
use Rattle.wc_runner.specs.declared.error.RunError.{RunError}
use Rattle.wc_runner.specs.declared.error.RunError.TheVariants.{DiskFault, Full, OutOfMemory}
use Rattle.wc_runner.proofs.Accepted.{commit_refused, prepares, prepares_none, step_refused, turn_committed}
use Rattle.wc_runner.proofs.Needed.{needs_there}
use Rattle.wc_workers.specs.Steps.{IsOrHeldTurn, RefusesHeld, given}

-- ---- answers

answers_task : (limits : Limits) (now pid : ℕ) (t : Task) (q : Request) (a : TaskAnswer) → fits_task t a ≡ true → IsGiven (given a limits now) pid t q a
answers_task limits now pid t q answer.Failed h = record { reply = Failed; gave = refl; answered = refl; known = tt }
answers_task limits now pid task.Upload q answer.Nothing h = absurd (cc)
answers_task limits now pid task.Submit q answer.Nothing h = absurd (cc)
answers_task limits now pid task.Update q answer.Nothing h = absurd (cc)
answers_task limits now pid task.Retrieve q answer.Nothing h = absurd (cc)
answers_task limits now pid t q answer.Running h = record { reply = Running; gave = refl; answered = refl; known = tt }
answers_task limits now pid t q answer.Done h = record { reply = Done; gave = refl; answered = refl; known = tt }
answers_task limits now pid t q (answer.Result r) h = record { reply = Brought r; gave = refl; answered = refl; known = tt }

answers_need : (limits : Limits) (now pid : ℕ) (n : Need) (a : TaskAnswer) → fits n a ≡ true → AnswersNeed (given a limits now) pid n a
answers_need limits now pid nothing answer.Nothing h = refl
answers_need limits now pid nothing answer.Failed h = absurd (cc)
answers_need limits now pid nothing answer.Running h = absurd (cc)
answers_need limits now pid nothing answer.Done h = absurd (cc)
answers_need limits now pid nothing (answer.Result r) h = absurd (cc)
answers_need limits now pid (performs t q) a h = answers_task limits now pid t q a h

-- an answer that fits was given to what the process needs
pub fitting_answers : (limits : Limits) (now : ℕ) (w : World) (pid : ℕ) (a : TaskAnswer) → FitsNeed w pid a → Answers (given a limits now) w pid a
fitting_answers limits now w pid a f =
    needs_there w pid f.process f.found (need w f.process) refl (λ n. AnswersNeed (given a limits now) pid n a) (answers_need limits now pid (need w f.process) a f.fitting)

pub fits_what_it_needs : (w : World) (pid : ℕ) (a : TaskAnswer) → FitsNeed w pid a → WhatItNeeds w pid (λ n. fits n a ≡ true)
fits_what_it_needs w pid a f = needs_there w pid f.process f.found (need w f.process) refl (λ n. fits n a ≡ true) f.fitting

-- ---- leases

not_stale : (b : Bool) (why : Why) (rest : Option Why) → (if b then Some why else rest) ≡ None → b ≡ false
not_stale true why rest h = absurd (cc)
not_stale false why rest h = refl

-- a lease that isn't given up is the last one of its process
pub valid_is_current : (p : Pool) (w : World) (k : ℕ) (l : Lease) (now : ℕ) → FitsWorld p w → lease_at p k ≡ Some l → why_given p w l now ≡ None → is_current p l ≡ true
valid_is_current p w k l now f had valid =
    let low : l.epoch ≤ epoch_at p l.pid = f.epochs k l had in
    let fresh : nat_lt l.epoch (epoch_at p l.pid) ≡ false = not_stale (nat_lt l.epoch (epoch_at p l.pid)) _ _ valid in
    elim (cases_lt l.epoch (epoch_at p l.pid)) [
      | inl less ↦ let yes : nat_lt l.epoch (epoch_at p l.pid) ≡ true = lt-ltb l.epoch (epoch_at p l.pid) less in absurd (cc (yes, fresh))
      | inr more ↦ eq-eqb (epoch_at p l.pid) l.epoch (omega arith)
    ]

-- the answer that a worker has under such a lease fits
pub held_fits : (p : Pool) (w : World) (k : ℕ) (l : Lease) (a : TaskAnswer) (now : ℕ) → FitsWorld p w → seat_at p k ≡ Answered l a → why_given p w l now ≡ None → FitsNeed w l.pid a
held_fits p w k l a now f had valid = f.answers k l a had (valid_is_current p w k l now f (ap lease_in had) valid)

pub same_pool : (p q : Pool) → q ≡ p → IsSamePool p q
same_pool p q e = record { workers = ap (λ (x : Pool). x.workers) e; entries = λ pid. ap (λ (x : Pool). entry_at x pid) e }

-- ---- turns

module _ (limits : Limits) (worker now : ℕ) (p : Pool) (w : World) (l : Lease) (a : TaskAnswer) (had : seat_at p worker ≡ Answered l a) (valid : why_given p w l now ≡ None)
    (f : FitsWorld p w) where
  its_answer : Answers (given a limits now) w l.pid a
  its_answer = fitting_answers limits now w l.pid a (held_fits p w worker l a now f had valid)

  held_refused : (journal : Journal) (e : RunError) → RefusesStep (given a limits now) journal w l.pid e → RefusesHeld limits worker now p journal w e
  held_refused journal DiskFault h = record { lease = l; answer = a; had = had; valid = valid; refused = h }
  held_refused journal (Full what count limit) h = record { lease = l; answer = a; had = had; valid = valid; refused = h }
  held_refused journal OutOfMemory h = tt

  pub changes_refused : (journal : Journal) (e : RunError) → RefusesChanges limits w l.pid a now e → RefusesHeld limits worker now p journal w e
  changes_refused journal e h = held_refused journal e (step_refused (given a limits now) journal w l.pid e (prepares_none (given a limits now) w l.pid now a refl its_answer e h))

  module _ (cs : List Change) (ready : IsReady limits w l.pid a now cs) where
    prepared : IsPrepared (given a limits now) l.pid w cs
    prepared = prepares (given a limits now) w l.pid now a refl its_answer cs ready

    pub stored_refused : (journal : Journal) (e : RunError) → RefusesStored journal limits w cs e → RefusesHeld limits worker now p journal w e
    stored_refused journal e h = held_refused journal e (commit_refused (given a limits now) l.pid w cs prepared journal e h)

    pub held_stepped : {D : Type 0} (g : disk.Ghosts D) (whole : Bool) (old new : Store) (one two one_new two_new : D) → old.world.world ≡ w
        → Stepped g (IsOrCommitted limits cs old) whole old one two new one_new two_new
        → Stepped g (IsOrHeldTurn limits worker now p w old.journal) whole old one two new one_new two_new
    held_stepped g whole old new one two one_new two_new same =
        weaker_step g (IsOrCommitted limits cs old) (IsOrHeldTurn limits worker now p w old.journal) whole old new one two one_new two_new
        (λ v journal h. ⊎_elim (λ as_before. inl (as_before.0 ∙ same, as_before.1))
        (λ (is : IsCommitted limits cs old v journal). inr (record { lease = l; answer = a; had = had; valid = valid; turn = turn_committed (given a limits now) l.pid w cs prepared old same v journal is }))
        h.holds)

-- ---- results

-- a refused step is live alike, whatever it would have answered
pub live_alike : (A B : Type 0) (e : RunError) → is_live_after {T = A} (Err e) ≡ is_live_after {T = B} (Err e)
live_alike A B DiskFault = refl
live_alike A B (Full what count limit) = refl
live_alike A B OutOfMemory = refl

-- changes that are refused before any disk is called leave a store live
pub changes_live : (A : Type 0) (limits : Limits) (w : World) (pid : ℕ) (a : TaskAnswer) (now : ℕ) (e : RunError) → RefusesChanges limits w pid a now e
    → is_live_after {T = A} (Err e) ≡ true
changes_live A limits w pid a now DiskFault h = absurd h
changes_live A limits w pid a now (Full what count limit) h = refl
changes_live A limits w pid a now OutOfMemory h = refl

pub on_err : {A E : Type 0} (r : Result A E) (P Q : Type 0) → (P → Q) → OnErr r P → OnErr r Q
on_err (Ok a) P Q more h = tt
on_err (Err e) P Q more h = more h
