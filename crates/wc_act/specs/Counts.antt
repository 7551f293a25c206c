-- What is counted in a call that does a deed, or makes a plan and does a deed.
use Rattle.std.specs.Prelude.{◌≡◌, ℕ, Result, Ok, Err}
use Rattle.wc_io.specs.Counts.{RisesByOne, EitherFailedLast}
use Rattle.wc_plan.specs.declared.error.PlanError.{PlanError}
use Rattle.wc_plan.specs.declared.error.PlanError.TheVariants as plan_error
use Rattle.wc_act.specs.declared.error.ActError.{ActError}
use Rattle.wc_act.specs.declared.error.ActError.TheVariants as act_error
use Rattle.wc_act.specs.declared.error.ReplyError.{ReplyError}
use Rattle.wc_act.specs.declared.error.ReplyError.TheVariants as reply_error
use Rattle.wc_plan.specs.declared.reply.Reply.{Reply}
use Rattle.wc_plan.specs.declared.status.Status.{Status}
use Rattle.wc_plan.specs.declared.status.Status.TheVariants as status

-- `DiskFault` comes only where the count of one of the disks rose by one, its last call failed and the other count stayed,
-- and each other answer leaves both counts
abbrev pub CountsDisks : {T : Type 0} → Result T ActError → (one one' two two' : ℕ) → (failed_one failed_two : Type 0) → Type 0
CountsDisks (Ok answer) one one' two two' failed_one failed_two = (one' ≡ one) × (two' ≡ two)
CountsDisks (Err act_error.OutOfMemory) one one' two two' failed_one failed_two = (one' ≡ one) × (two' ≡ two)
CountsDisks (Err act_error.DiskFault) one one' two two' failed_one failed_two = EitherFailedLast one one' two two' failed_one failed_two

-- ---- a plan and a deed

-- the error of a call whose plan failed
abbrev pub of_plan : PlanError → ReplyError
of_plan plan_error.OutOfMemory = reply_error.OutOfMemory
of_plan plan_error.ReadFault = reply_error.ReadFault

-- the error of a call whose deed failed
abbrev pub of_act : ActError → ReplyError
of_act act_error.OutOfMemory = reply_error.OutOfMemory
of_act act_error.DiskFault = reply_error.DiskFault

-- `ReadFault` comes only where the shelf's count rose by one and its last read failed, and then both disks are as before, and `DiskFault` only
-- where the count of one of the disks rose by one and its last call failed; each other count stays
abbrev pub CountsReply : {D : Type 0} → Result Reply ReplyError → (shelf shelf' one one' two two' : ℕ) → (d d' e e' : D)
    → (failed_shelf failed_one failed_two : Type 0) → Type 0
CountsReply (Ok reply) shelf shelf' one one' two two' d d' e e' failed_shelf failed_one failed_two = (shelf' ≡ shelf) × (one' ≡ one) × (two' ≡ two)
CountsReply (Err reply_error.OutOfMemory) shelf shelf' one one' two two' d d' e e' failed_shelf failed_one failed_two = (shelf' ≡ shelf) × (one' ≡ one) × (two' ≡ two)
CountsReply (Err reply_error.ReadFault) shelf shelf' one one' two two' d d' e e' failed_shelf failed_one failed_two =
    RisesByOne shelf shelf' × failed_shelf × (d' ≡ d) × (e' ≡ e)
CountsReply (Err reply_error.DiskFault) shelf shelf' one one' two two' d d' e e' failed_shelf failed_one failed_two =
    (shelf' ≡ shelf) × EitherFailedLast one one' two two' failed_one failed_two

-- the status of a reply, or of a call that has none
abbrev pub status_of : Result Reply ReplyError → Status
status_of (Ok r) = r.status
status_of (Err reply_error.OutOfMemory) = status.OutOfMemory
status_of (Err reply_error.ReadFault) = status.ReadFault
status_of (Err reply_error.DiskFault) = status.DiskFault
