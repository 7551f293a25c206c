-- What is owed for words, and counted, where they plan a reply or a deed.
use Rattle.std.proofs.Common.{◌≡◌, inl, inr, ⊎_elim, ℕ, List, Option, Result, Ok, Err, refl, sym, ap, subst}
use Rattle.std.specs.Prelude.{IfErr}
use Rattle.std.specs.Result.{IsErr, IsErrAnd}
use Rattle.wc_disk.specs.declared.disk.Disk as disk
use Rattle.wc_cli.specs.Words.{command_of}
use Rattle.wc_plan.specs.declared.deed.Deed.{Deed}
use Rattle.wc_plan.specs.declared.deed.Plan.TheVariants as plan
use Rattle.wc_act.specs.declared.error.ActError.{ActError}
use Rattle.wc_act.specs.declared.error.ActError.TheVariants as act_error
use Rattle.wc_plan.specs.declared.error.PlanError.{PlanError}
use Rattle.wc_plan.specs.declared.error.PlanError.TheVariants as plan_error
use Rattle.wc_act.specs.declared.error.ReplyError.{ReplyError}
use Rattle.wc_plan.specs.declared.reply.Reply.{Reply}
use Rattle.wc_plan.specs.declared.status.Cause.{Cause}
use Rattle.wc_plan.specs.declared.status.Status.{Status}
use Rattle.wc_plan.specs.declared.status.Status.TheVariants as status
use Rattle.wc_plan.specs.Counts.{CountsShelf}
use Rattle.wc_act.specs.Counts.{CountsDisks, CountsReply, of_plan, of_act, status_of}
use Rattle.wc_act.specs.Aborted.{Aborts, ServesAborted}
use Rattle.wc_act.specs.Exchanges.{Exchange}
use Rattle.wc_act.specs.Owed.{LeaveUndone}
use Rattle.wc_plan.specs.Plans.{Plans}
use Rattle.wc_act.specs.Rows.{row}
use Rattle.wc_act.specs.Undone.{EndsWith, ended_by}
use Rattle.wc_plan.proofs.Replied.{told_replied, IsDoneOrRefused}

-- a call that ends with this error
abbrev FailsWith : Result Reply ReplyError → ReplyError → Type 0
FailsWith result e = IsErr result × IsErrAnd result (λ x. x ≡ e)

fails_is : (result : Result Reply ReplyError) (e : ReplyError) → FailsWith result e → Err e ≡ result
fails_is (Ok r) e (none, is) = absurd (cc)
fails_is (Err x) e (some, is) = ap (λ (y : ReplyError). Err y) (sym is)

-- ---- there is no plan

error_counts : (T : Type 0) {D : Type 0} (e : PlanError) (shelf shelf_new one two : ℕ) (d x : D) (failed_shelf failed_one failed_two : Type 0)
    → CountsShelf {T = T} (Err e) shelf shelf_new failed_shelf → CountsReply (Err (of_plan e)) shelf shelf_new one one two two d d x x failed_shelf failed_one failed_two
error_counts T plan_error.OutOfMemory shelf shelf_new one two d x failed_shelf failed_one failed_two counts = (counts, refl, refl)
error_counts T plan_error.ReadFault shelf shelf_new one two d x failed_shelf failed_one failed_two counts = (counts.0, counts.1, refl, refl)

pub plan_counts : (T : Type 0) {D : Type 0} (result : Result Reply ReplyError) (e : PlanError) (shelf shelf_new one two : ℕ) (d x : D) (failed_shelf failed_one failed_two : Type 0)
    → FailsWith result (of_plan e) → CountsShelf {T = T} (Err e) shelf shelf_new failed_shelf
    → CountsReply result shelf shelf_new one one two two d d x x failed_shelf failed_one failed_two
plan_counts T result e shelf shelf_new one two d x failed_shelf failed_one failed_two fails counts =
    subst (λ (r : Result Reply ReplyError). CountsReply r shelf shelf_new one one two two d d x x failed_shelf failed_one failed_two) (fails_is result (of_plan e) fails)
    (error_counts T e shelf shelf_new one two d x failed_shelf failed_one failed_two counts)

error_no_fault : (e : PlanError) → status_of (Err (of_plan e)) ≡ status.DiskFault → ⊥
error_no_fault plan_error.OutOfMemory is = cc
error_no_fault plan_error.ReadFault is = cc

pub plan_no_fault : (result : Result Reply ReplyError) (e : PlanError) → FailsWith result (of_plan e) → status_of result ≡ status.DiskFault → ⊥
plan_no_fault result e fails =
    subst (λ (r : Result Reply ReplyError). status_of r ≡ status.DiskFault → ⊥) (fails_is result (of_plan e) fails) (error_no_fault e)

-- ---- a reply is told

pub told_no_fault : (told : Option (List ℕ → Option (List ℕ))) (words : List (List ℕ)) (r : Reply) → Plans told (command_of words) (plan.Reply r) → r.status ≡ status.DiskFault → ⊥
told_no_fault told words r plans is = subst IsDoneOrRefused is (told_replied told (command_of words) r plans)

-- ---- a deed is planned

fault_counts : (T : Type 0) {D : Type 0} (e : ActError) (shelf shelf_new one one_new two two_new : ℕ) (d d_new x x_new : D) (failed_shelf failed_one failed_two : Type 0)
    → shelf_new ≡ shelf → CountsDisks {T = T} (Err e) one one_new two two_new failed_one failed_two
    → CountsReply (Err (of_act e)) shelf shelf_new one one_new two two_new d d_new x x_new failed_shelf failed_one failed_two
fault_counts T act_error.OutOfMemory shelf shelf_new one one_new two two_new d d_new x x_new failed_shelf failed_one failed_two same counts = (same, counts.0, counts.1)
fault_counts T act_error.DiskFault shelf shelf_new one one_new two two_new d d_new x x_new failed_shelf failed_one failed_two same counts = (same, counts)

pub act_counts : (T : Type 0) {D : Type 0} (result : Result Reply ReplyError) (e : ActError) (shelf shelf_new one one_new two two_new : ℕ) (d d_new x x_new : D)
    (failed_shelf failed_one failed_two : Type 0) → FailsWith result (of_act e) → shelf_new ≡ shelf → CountsDisks {T = T} (Err e) one one_new two two_new failed_one failed_two
    → CountsReply result shelf shelf_new one one_new two two_new d d_new x x_new failed_shelf failed_one failed_two
act_counts T result e shelf shelf_new one one_new two two_new d d_new x x_new failed_shelf failed_one failed_two fails same counts =
    subst (λ (r : Result Reply ReplyError). CountsReply r shelf shelf_new one one_new two two_new d d_new x x_new failed_shelf failed_one failed_two)
    (fails_is result (of_act e) fails)
    (fault_counts T e shelf shelf_new one one_new two two_new d d_new x x_new failed_shelf failed_one failed_two same counts)

-- a deed that has no reply isn't refused
fault_no_refusal : (e : ActError) (c : Cause) → status_of (Err (of_act e)) ≡ status.Refused c → ⊥
fault_no_refusal act_error.OutOfMemory c is = cc
fault_no_refusal act_error.DiskFault c is = cc

pub act_no_refusal : (result : Result Reply ReplyError) (e : ActError) (c : Cause) → FailsWith result (of_act e) → status_of result ≡ status.Refused c → ⊥
act_no_refusal result e c fails =
    subst (λ (r : Result Reply ReplyError). status_of r ≡ status.Refused c → ⊥) (fails_is result (of_act e) fails) (fault_no_refusal e c)

-- its status is that with which it ended
act_ended : (e : ActError) → status_of (Err (of_act e)) ≡ ended_by e
act_ended act_error.OutOfMemory = refl
act_ended act_error.DiskFault = refl

pub act_ends : (P : Status → Type 0) (result : Result Reply ReplyError) (e : ActError) → FailsWith result (of_act e) → P (status_of result) → EndsWith P (Err e)
act_ends P result e fails ends =
    subst P (act_ended e) (subst (λ (r : Result Reply ReplyError). P (status_of r)) (sym (fails_is result (of_act e) fails)) ends)

pub act_undone : (told : Option (List ℕ → Option (List ℕ))) (words : List (List ℕ)) (d : Deed) (result : Result Reply ReplyError) (e : ActError) → FailsWith result (of_act e)
    → Plans told (command_of words) (plan.On d) → LeaveUndone told words (status_of result) → EndsWith (row d).undone (Err e)
act_undone told words d result e fails plans undone = act_ends (row d).undone result e fails (undone d plans)

-- what a deed leaves that has no reply is left of the words that plan it
pub act_aborts : {D : Type 0} (g : disk.Ghosts D) (told : Option (List ℕ → Option (List ℕ))) (words : List (List ℕ)) (x : Exchange) (d : Deed) (one two one_new two_new : D) (A B idle : Type 0)
    (result : Result Reply ReplyError) (e : ActError) → FailsWith result (of_act e) → Plans told (command_of words) (plan.On d)
    → (A → B → Aborts g x d one two one_new two_new (ended_by e) idle)
    → IfErr result (λ y. A → B → ServesAborted g told words x one two one_new two_new (status_of result) idle)
act_aborts g told words x d one two one_new two_new A B idle result e fails plans aborts =
    subst (λ (r : Result Reply ReplyError). IfErr r (λ y. A → B → ServesAborted g told words x one two one_new two_new (status_of r) idle)) (fails_is result (of_act e) fails)
    (λ tells tells_too.
    subst (λ (s : Status). ServesAborted g told words x one two one_new two_new s idle) (sym (act_ended e))
    (⊎_elim (λ none. inl none) (λ left. inr (d, plans, left)) (aborts tells tells_too)))
