-- What a process needs, and what was asked for it.
use Rattle.std.proofs.Common.{◌≡◌, inl, inr, ℕ, true, Option, Some, None, Result, Ok, Err, refl, sym, ap, subst, ◌∙◌}
use Rattle.std.specs.Prelude.{IfSome}
use Rattle.wc_io.specs.Counts.{RisesByOne}
use Rattle.wc_value.specs.declared.process.Request.{Request}
use Rattle.wc_state.specs.declared.record.ProcessRecord.{ProcessRecord}
use Rattle.wc_state.specs.declared.record.Task.{Task}
use Rattle.wc_state.specs.declared.record.Task.TheVariants as task
use Rattle.wc_transport.specs.declared.transport.Transport as transport
use Rattle.wc_world.specs.World.{World}
use Rattle.wc_world.specs.Records.{find_record}
use Rattle.wc_machine.specs.Questions.{Need, nothing, performs, need}
use Rattle.wc_machine.specs.declared.error.TurnError.{TurnError}
use Rattle.wc_machine.specs.declared.error.TurnError.TheVariants as turn_error
use Rattle.wc_core.specs.Asks.{asks_of, asks_task}
use Rattle.wc_core.specs.Ready.{is_ready_at}
use Rattle.wc_core.specs.Refusals.{RefusesNeed}
use Rattle.wc_core.specs.declared.needs.Asks.TheVariants as asks
use Rattle.wc_runner.specs.Asked.{AsksOnce, CountsAsking, IsAsked, WhatItNeeds}
use Rattle.wc_runner.specs.declared.error.RunError.{RunError}
use Rattle.wc_runner.specs.declared.error.RunError.TheVariants.{DiskFault, Full, OutOfMemory}
use Rattle.wc_runner.proofs.Answered.{told_same}
use Rattle.wc_runner.proofs.Taken.{ready_there}

-- ---- the need of a question

pub needs_nothing : (n : Need) → asks.Nothing ≡ asks_of n → n ≡ nothing
needs_nothing nothing e = refl
needs_nothing (performs task.Upload q) e = absurd (cc)
needs_nothing (performs task.Submit q) e = absurd (cc)
needs_nothing (performs task.Update q) e = absurd (cc)
needs_nothing (performs task.Retrieve q) e = absurd (cc)

pub needs_task : (t : Task) (q : Request) (n : Need) → asks_task t q ≡ asks_of n → n ≡ performs t q
needs_task task.Upload q nothing e = absurd (cc)
needs_task task.Submit q nothing e = absurd (cc)
needs_task task.Update q nothing e = absurd (cc)
needs_task task.Retrieve q nothing e = absurd (cc)
needs_task task.Upload q (performs task.Upload p) e = let same : p ≡ q = cc in ap (performs task.Upload) same
needs_task task.Upload q (performs task.Submit p) e = absurd (cc)
needs_task task.Upload q (performs task.Update p) e = absurd (cc)
needs_task task.Upload q (performs task.Retrieve p) e = absurd (cc)
needs_task task.Submit q (performs task.Upload p) e = absurd (cc)
needs_task task.Submit q (performs task.Submit p) e = let same : p ≡ q = cc in ap (performs task.Submit) same
needs_task task.Submit q (performs task.Update p) e = absurd (cc)
needs_task task.Submit q (performs task.Retrieve p) e = absurd (cc)
needs_task task.Update q (performs task.Upload p) e = absurd (cc)
needs_task task.Update q (performs task.Submit p) e = absurd (cc)
needs_task task.Update q (performs task.Update p) e = let same : p ≡ q = cc in ap (performs task.Update) same
needs_task task.Update q (performs task.Retrieve p) e = absurd (cc)
needs_task task.Retrieve q (performs task.Upload p) e = absurd (cc)
needs_task task.Retrieve q (performs task.Submit p) e = absurd (cc)
needs_task task.Retrieve q (performs task.Update p) e = absurd (cc)
needs_task task.Retrieve q (performs task.Retrieve p) e = let same : p ≡ q = cc in ap (performs task.Retrieve) same

-- what holds of the need that is known holds of what the process needs
pub needs_there : (w : World) (pid : ℕ) (r : ProcessRecord) → find_record pid w.records ≡ Some r → (n : Need) → need w r ≡ n → (P : Need → Type 0) → P n → WhatItNeeds w pid P
needs_there w pid r found n is P h = subst (λ (o : Option ProcessRecord). IfSome o (λ x. P (need w x))) (sym found) (subst P (sym is) h)

-- and what holds of each need
pub needs_any : (w : World) (pid : ℕ) (P : Need → Type 0) → ((n : Need) → P n) → WhatItNeeds w pid P
needs_any w pid P h = at (find_record pid w.records)
  where
    at : (o : Option ProcessRecord) → IfSome o (λ x. P (need w x))
    at None = tt
    at (Some r) = h (need w r)

pub needs_map : (w : World) (pid : ℕ) (P Q : Need → Type 0) → ((n : Need) → P n → Q n) → WhatItNeeds w pid P → WhatItNeeds w pid Q
needs_map w pid P Q more h = at (find_record pid w.records) h
  where
    at : (o : Option ProcessRecord) → IfSome o (λ x. P (need w x)) → IfSome o (λ x. Q (need w x))
    at None k = tt
    at (Some r) k = more (need w r) k

-- the need of a process that is ready is told
pub need_told : (w : World) (pid now : ℕ) (e : TurnError) → is_ready_at w pid now ≡ true → RefusesNeed w pid e → (e ≡ turn_error.OutOfMemory → ⊥) → ⊥
need_told w pid now turn_error.NotReady ready h other = h
need_told w pid now (turn_error.Full what count limit) ready h other = h
need_told w pid now turn_error.UnknownProcess ready h other = let there = ready_there w pid now ready in let both : None ≡ Some there.0 = sym h ∙ there.1 in cc
need_told w pid now (turn_error.Ended state) ready h other = h
need_told w pid now turn_error.UnknownName ready h other = h
need_told w pid now (turn_error.BadInputs port) ready h other = h
need_told w pid now turn_error.OutOfMemory ready h other = other refl

-- ---- what was asked

pub counts_once : {A : Type 0} (r : Result A RunError) (old new : ℕ) → RisesByOne old new → CountsAsking r old new
counts_once (Ok a) old new h = h
counts_once (Err DiskFault) old new h = h
counts_once (Err (Full what count limit)) old new h = h
counts_once (Err OutOfMemory) old new h = inr h

-- a turn asks what is asked for its answer
pub asks_on : {A B T : Type 0} (a : A) (r : Result B RunError) (asked : T → ℕ) (old new : T) (n : Need) → AsksOnce {A = A} (Ok a) asked old new n → AsksOnce r asked old new n
asks_on a r asked old new nothing h = h
asks_on a r asked old new (performs t q) h = counts_once r (asked old) (asked new) h

-- a transport that isn't asked stays
pub unasked : {T : Type 0} (g : transport.Ghosts T) (pid : ℕ) (t : T) → IsAsked g pid nothing t t
unasked g pid t = record {
  placed = told_same _ (λ placed dir. refl) (g.placed t) (g.placed t) refl;
  table = refl;
  finished = λ dir h. h;
  tells_finished = refl;
  faults = inl refl;
  obliging = λ obliging. obliging;
}
