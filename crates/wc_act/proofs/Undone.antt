-- What is told where no store was made.
use Rattle.std.proofs.Common.{◌≡◌, Some, Result, Ok, Err, IfOk, sym, subst}
use Rattle.wc_disk.specs.declared.disk.Disk as disk
use Rattle.wc_store.specs.declared.error.StoreError.{StoreError}
use Rattle.wc_store.specs.declared.error.StoreError.TheVariants as error
use Rattle.wc_store.specs.Refusals.{RefusesInit}
use Rattle.wc_plan.specs.declared.reply.Reply.{Reply}
use Rattle.wc_plan.specs.declared.status.Cause.TheVariants as cause
use Rattle.wc_plan.specs.Replies.{refuses}
use Rattle.wc_act.specs.Statuses.{IsDoneOrFull}
use Rattle.wc_act.specs.StoreDeeds.{is_damaged}
use Rattle.wc_act.specs.Opened.{store_reply}
use Rattle.wc_act.proofs.Doing.{some_is}

module _ {D : Type 0} (g : disk.Ghosts D) (one two : D) where
  undone : (e : StoreError) (r : Reply) → RefusesInit g one two e → store_reply e ≡ Some r → IsDoneOrFull r.status → ⊥
  undone error.DiskFault r refused reply done = absurd (cc)
  undone (error.Damaged disk at found) r refused reply done = subst (λ (x : Reply). IsDoneOrFull x.status) (sym (some_is (is_damaged disk at found) r reply)) done
  undone (error.Full what count limit) r refused reply done = refused
  undone error.AlreadyThere r refused reply done = subst (λ (x : Reply). IsDoneOrFull x.status) (sym (some_is (refuses cause.StoreExists) r reply)) done
  undone error.OutOfMemory r refused reply done = absurd (cc)

  -- `init` is refused
  pub init_undone : {E : Type 0} (P : Type 0) (e : StoreError) (result : Result Reply E) → RefusesInit g one two e
      → IfOk result (λ r. store_reply e ≡ Some r) → IfOk result (λ r. IsDoneOrFull r.status → P)
  init_undone P e (Ok r) refused reply = λ done. absurd (undone e r refused reply done)
  init_undone P e (Err x) refused reply = reply
