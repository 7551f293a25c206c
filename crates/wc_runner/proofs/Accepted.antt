-- What the turn of a ready process makes, and how it is refused.
use Rattle.std.proofs.Common.{◌≡◌, ◌⊎◌, inl, inr, ℕ, ◌+◌, true, false, List, [], ◌∷◌, Result, Ok, Err, refl, sym, ap, subst, ◌∙◌}
use Rattle.std.specs.Prelude.{All, IfErr, OnErr, OnOk}
use Rattle.std.proofs.lemmas.List.Elements.{All-head, All-tail}
use Rattle.wc_journal.specs.declared.journal.Journal.{Journal}
use Rattle.wc_state.specs.declared.record.Limits.{Limits}
use Rattle.wc_world.specs.declared.change.Change.{Change}
use Rattle.wc_world.specs.declared.change.Change.TheVariants as change
use Rattle.wc_world.specs.World.{World}
use Rattle.wc_world.specs.Applied.{applied}
use Rattle.wc_machine.specs.declared.answer.TaskAnswer.{TaskAnswer}
use Rattle.wc_machine.specs.Machine.{Leads, turn}
use Rattle.wc_soundness.specs.AcceptedLaws.{IsPlain}
use Rattle.wc_soundness.proofs.Parts.{events_are_plain}
use Rattle.wc_machine.specs.declared.error.TurnError.{TurnError}
use Rattle.wc_machine.specs.declared.error.TurnError.TheVariants as turn_error
use Rattle.wc_core.specs.Ready.{is_ready_at}
use Rattle.wc_core.specs.Refusals.{RefusesTurn}
use Rattle.wc_store.specs.Held.{is_plain}
use Rattle.wc_store.specs.Refusals.{RefusesCommit}
use Rattle.wc_store.specs.Refusals as store
use Rattle.wc_store.specs.Stepped.{IsCommitted}
use Rattle.wc_store.specs.declared.store.Store.{Store}
use Rattle.wc_store.specs.declared.error.StoreError.{StoreError}
use Rattle.wc_store.specs.declared.error.StoreError.TheVariants as store_error
use Rattle.wc_runner.specs.declared.error.RunError.{RunError}
use Rattle.wc_runner.specs.declared.error.RunError.TheVariants.{DiskFault, Full, OutOfMemory}
use Rattle.wc_runner.specs.Leaves.{IsTurnWithin}
use Rattle.wc_runner.specs.Outside.{Answers, Outside}
use Rattle.wc_runner.specs.Refusals.{IsUnchanged, RefusesItsCommit, RefusesPrepared, RefusesStep, RefusesStored, is_live_after}
use Rattle.wc_runner.specs.Turns.{IsOfCommit, IsPrepared, IsReady, IsRoomOrMemory, RefusesChanges, of_store, of_turn}
use Rattle.wc_runner.proofs.ManyTurns.{one_batch}

-- changes of which none is a Count or a Kept may be committed
plain : (cs : List Change) → All IsPlain cs → is_plain cs ≡ true
plain [] all = refl
plain (change.Library l names ∷ cs) all = plain cs (All-tail IsPlain (change.Library l names) cs all)
plain (change.Data v ∷ cs) all = plain cs (All-tail IsPlain (change.Data v) cs all)
plain (change.Process n ∷ cs) all = plain cs (All-tail IsPlain (change.Process n) cs all)
plain (change.Link l ∷ cs) all = plain cs (All-tail IsPlain (change.Link l) cs all)
plain (change.Set s ∷ cs) all = plain cs (All-tail IsPlain (change.Set s) cs all)
plain (change.Count n ∷ cs) all = absurd (All-head IsPlain (change.Count n) cs all)
plain (change.Kept k ∷ cs) all = absurd (All-head IsPlain (change.Kept k) cs all)

pub turn_is_plain : (poll : ℕ) (w : World) (pid now : ℕ) (a : TaskAnswer) (cs : List Change) → Leads poll w (turn pid a now) cs → is_plain cs ≡ true
turn_is_plain poll w pid now a cs leads = plain cs (events_are_plain poll w (turn pid a now) cs leads)

-- ---- what a turn makes

pub prepares : (o : Outside) (w : World) (pid now : ℕ) (a : TaskAnswer) → o.said now → Answers o w pid a → (cs : List Change) → IsReady o.limits w pid a now cs → IsPrepared o pid w cs
prepares o w pid now a said answered cs r = record {
  turn = record { moment = now; said = said; answer = a; answered = answered; leads = r.leads };
  accepted = r.accepted;
  plain = r.plain;
  room = r.room;
}

pub prepares_none : (o : Outside) (w : World) (pid now : ℕ) (a : TaskAnswer) → o.said now → Answers o w pid a → (e : RunError) → RefusesChanges o.limits w pid a now e
    → RefusesPrepared o pid w e
prepares_none o w pid now a said answered DiskFault h = h
prepares_none o w pid now a said answered (Full what count limit) h =
    (h.0, record { moment = now; said = said; answer = a; answered = answered; leads = h.1 }, h.2)
prepares_none o w pid now a said answered OutOfMemory h = tt

module _ (o : Outside) (pid : ℕ) (w : World) (cs : List Change) (p : IsPrepared o pid w cs) where
  pub turn_counted : (applied w cs).batches ≡ w.batches + 1
  turn_counted = one_batch o pid w cs p.turn

  -- the turn that is committed, by one batch and within the limits
  pub turn_committed : (store : Store) → store.world.world ≡ w → (v : World) (journal : Journal) → IsCommitted o.limits cs store v journal → IsTurnWithin o pid w v journal
  turn_committed store same v journal c =
      let is : v ≡ applied w cs = c.world ∙ ap (λ (x : World). applied x cs) same in
      record {
        turn = record { changes = cs; turn = p.turn; accepted = p.accepted; after = is };
        fits = (c.nodes, c.longer.fits);
        batch = ap (λ (x : World). x.batches) is ∙ turn_counted;
      }

  its_commit : (journal : Journal) (e : StoreError) → RefusesCommit journal o.limits w cs e → RefusesItsCommit o journal w pid e
  its_commit journal e h = record { changes = cs; turn = p.turn; accepted = p.accepted; room = p.room; refused = h }

  pub commit_refused : (journal : Journal) (e : RunError) → RefusesStored journal o.limits w cs e → RefusesStep o journal w pid e
  commit_refused journal DiskFault h = its_commit journal store_error.DiskFault h
  commit_refused journal (Full what count limit) h = inr (its_commit journal (store_error.Full what count limit) h)
  commit_refused journal OutOfMemory h = tt

-- ---- refusals

pub step_refused : (o : Outside) (journal : Journal) (w : World) (pid : ℕ) (e : RunError) → RefusesPrepared o pid w e → RefusesStep o journal w pid e
step_refused o journal w pid DiskFault h = absurd h
step_refused o journal w pid (Full what count limit) h = inl h
step_refused o journal w pid OutOfMemory h = tt

pub still_live : (o : Outside) (w : World) (pid : ℕ) (e : RunError) → RefusesPrepared o pid w e → is_live_after {T = Unit {0}} (Err e) ≡ true
still_live o w pid DiskFault h = absurd h
still_live o w pid (Full what count limit) h = refl
still_live o w pid OutOfMemory h = refl

pub unchanged : {S : Type 0} (e : RunError) (s : S) → IsUnchanged {T = Unit {0}} (Err e) s s
unchanged DiskFault s = tt
unchanged (Full what count limit) s = refl
unchanged OutOfMemory s = refl

pub turn_refuses : (limits : Limits) (w : World) (pid : ℕ) (a : TaskAnswer) (now : ℕ) (e : TurnError) → RefusesTurn limits.poll_ms w pid a now limits.max_nodes e
    → RefusesChanges limits w pid a now (of_turn e)
turn_refuses limits w pid a now turn_error.NotReady h = tt
turn_refuses limits w pid a now (turn_error.Full what count limit) h = h
turn_refuses limits w pid a now turn_error.UnknownProcess h = tt
turn_refuses limits w pid a now (turn_error.Ended state) h = tt
turn_refuses limits w pid a now turn_error.UnknownName h = tt
turn_refuses limits w pid a now (turn_error.BadInputs port) h = tt
turn_refuses limits w pid a now turn_error.OutOfMemory h = tt

-- ---- results

pub on_ok : {A E : Type 0} (r : Result A E) (P Q : Type 0) → (P → Q) → OnOk r P → OnOk r Q
on_ok (Ok a) P Q more h = more h
on_ok (Err e) P Q more h = tt

pub if_err : {A E : Type 0} (r : Result A E) (P Q : E → Type 0) → ((e : E) → P e → Q e) → IfErr r P → IfErr r Q
if_err (Ok a) P Q more h = tt
if_err (Err e) P Q more h = more e h

pub err_any : {A E : Type 0} (r : Result A E) (P : Type 0) → P → OnErr r P
err_any (Ok a) P h = tt
err_any (Err e) P h = h

pub one_or_other : {A E : Type 0} (r : Result A E) (P Q : Type 0) → OnOk r P → OnErr r Q → P ⊎ Q
one_or_other (Ok a) P Q h k = inl h
one_or_other (Err e) P Q h k = inr k

-- ---- why a turn is refused, and a commit

-- why the turn of a ready process is refused
pub refused_turn : (poll : ℕ) (w : World) (pid : ℕ) (a : TaskAnswer) (now most : ℕ) (e : TurnError) → is_ready_at w pid now ≡ true → RefusesTurn poll w pid a now most e
    → IsRoomOrMemory e
refused_turn poll w pid a now most turn_error.NotReady ready refused = let both : true ≡ false = sym ready ∙ refused in absurd (cc)
refused_turn poll w pid a now most (turn_error.Full what count limit) ready refused = tt
refused_turn poll w pid a now most turn_error.UnknownProcess ready refused = refused
refused_turn poll w pid a now most (turn_error.Ended state) ready refused = refused
refused_turn poll w pid a now most turn_error.UnknownName ready refused = refused
refused_turn poll w pid a now most (turn_error.BadInputs port) ready refused = refused
refused_turn poll w pid a now most turn_error.OutOfMemory ready refused = tt

-- why a commit is
pub refused_commit : (journal : Journal) (limits : Limits) (w : World) (cs : List Change) (e : StoreError) → RefusesCommit journal limits w cs e → IsOfCommit e
refused_commit journal limits w cs store_error.DiskFault refused = tt
refused_commit journal limits w cs (store_error.Damaged disk at found) refused = refused
refused_commit journal limits w cs (store_error.Full what count limit) refused = tt
refused_commit journal limits w cs store_error.AlreadyThere refused = refused
refused_commit journal limits w cs store_error.OutOfMemory refused = tt

-- ---- what a run tells of a commit's refusal

-- the store is live alike
pub live_as : (e : StoreError) → IsOfCommit e → store.is_live_after {T = Unit {0}} (Err e) true ≡ is_live_after {T = Unit {0}} (Err (of_store e))
live_as store_error.DiskFault is = refl
live_as (store_error.Damaged disk at found) is = absurd is
live_as (store_error.Full what count limit) is = refl
live_as store_error.AlreadyThere is = absurd is
live_as store_error.OutOfMemory is = refl

-- and its disks are as they were alike
unchanged_of : {S : Type 0} (e : StoreError) → IsOfCommit e → (old new : S) → store.IsUnchanged {T = Unit {0}} (Err e) old new
    → IsUnchanged {T = Unit {0}} (Err (of_store e)) old new
unchanged_of store_error.DiskFault is old new h = tt
unchanged_of (store_error.Damaged disk at found) is old new h = absurd is
unchanged_of (store_error.Full what count limit) is old new h = h
unchanged_of store_error.AlreadyThere is old new h = absurd is
unchanged_of store_error.OutOfMemory is old new h = h

pub unchanged_as : {S : Type 0} (e : StoreError) → IsOfCommit e → (told : RunError) → told ≡ of_store e → (old new : S) → store.IsUnchanged {T = Unit {0}} (Err e) old new
    → IsUnchanged {T = Unit {0}} (Err told) old new
unchanged_as e is told same old new h = subst (λ (x : RunError). IsUnchanged {T = Unit {0}} (Err x) old new) (sym same) (unchanged_of e is old new h)
