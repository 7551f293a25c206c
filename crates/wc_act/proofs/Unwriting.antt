-- Calls that write no disk.
use Rattle.std.proofs.Common.{◌≡◌, ◌⊎◌, ◌≤◌, inl, inr, ⊎_elim, ℕ, List, Result, Err, refl, sym, subst, arith}
use Rattle.wc_disk.specs.declared.disk.Disk as disk
use Rattle.wc_disk.specs.Images.{LeavesOnly}
use Rattle.wc_disk.proofs.Runs.{no_call}
use Rattle.wc_store.specs.declared.error.StoreError.{StoreError}
use Rattle.wc_store.specs.declared.error.StoreError.TheVariants as error
use Rattle.wc_store.specs.declared.store.Store.{Store}
use Rattle.wc_store.specs.Refusals.{IsUnchanged}
use Rattle.wc_store.specs.Stores.{InOnePart, InTwoParts, AreImages, InitLeaves}
use Rattle.wc_plan.specs.declared.deed.Begin.TheVariants as begin
use Rattle.wc_plan.specs.declared.deed.Deed.{Deed}
use Rattle.wc_plan.specs.declared.deed.Deed.TheVariants as deed
use Rattle.wc_plan.specs.declared.deed.Work.{Work}
use Rattle.wc_plan.specs.declared.deed.Work.TheVariants as work
use Rattle.wc_plan.specs.declared.reply.Reply.{Reply}
use Rattle.wc_plan.specs.declared.status.Status.{Status}
use Rattle.wc_plan.specs.declared.status.Status.TheVariants as status
use Rattle.wc_act.specs.declared.error.ActError.{ActError}
use Rattle.wc_plan.specs.Replies.{OwesStatus}
use Rattle.wc_act.specs.Opened.{TellsFault}
use Rattle.wc_act.specs.Rows.{row, work_row}
use Rattle.wc_act.specs.Undone.{LeavesUnwritten, IsBeforeTurns, IsBeforePacking, IsBeforeStoring, EndsWith}

-- ---- how a call ends

-- what is said of how a call ended is said of the reply that was owed, unless that couldn't be written
pub said_of_reply : (P : Status → Type 0) → (P status.WriteFault → ⊥) → (owed ended : Status) → OwesStatus owed ended → (ended ≡ status.OutOfMemory → ⊥) → (ended ≡ status.ReadFault → ⊥)
    → (ended ≡ status.DiskFault → ⊥) → P ended → P owed
said_of_reply P never owed status.Ok h memory reading disks p = subst P h p
said_of_reply P never owed (status.Refused c) h memory reading disks p = subst P h p
said_of_reply P never owed status.OutOfMemory h memory reading disks p = absurd (memory refl)
said_of_reply P never owed status.Spent h memory reading disks p = subst P h p
said_of_reply P never owed status.Resting h memory reading disks p = subst P h p
said_of_reply P never owed status.DiskFault h memory reading disks p = absurd (disks refl)
said_of_reply P never owed (status.Damaged disk at found) h memory reading disks p = subst P h p
said_of_reply P never owed status.ReadFault h memory reading disks p = absurd (reading refl)
said_of_reply P never owed status.WriteFault h memory reading disks p = absurd (never p)
said_of_reply P never owed (status.Full what count limit) h memory reading disks p = subst P h p
said_of_reply P never owed (status.Unsound f) h memory reading disks p = subst P h p

work_undone : (w : Work) (owed ended : Status) → OwesStatus owed ended → (ended ≡ status.OutOfMemory → ⊥) → (ended ≡ status.ReadFault → ⊥) → (ended ≡ status.DiskFault → ⊥)
    → (work_row w).undone ended → (work_row w).undone owed
work_undone (work.View v) owed ended h memory reading disks u = tt
work_undone (work.Event a) owed ended h memory reading disks u = said_of_reply IsBeforeStoring (λ never. never) owed ended h memory reading disks u
work_undone (work.Run o) owed ended h memory reading disks u = said_of_reply IsBeforeTurns (λ never. never) owed ended h memory reading disks u
work_undone work.Pack owed ended h memory reading disks u = said_of_reply IsBeforePacking (λ never. never) owed ended h memory reading disks u

pub row_undone : (d : Deed) (owed ended : Status) → OwesStatus owed ended → (ended ≡ status.OutOfMemory → ⊥) → (ended ≡ status.ReadFault → ⊥) → (ended ≡ status.DiskFault → ⊥)
    → (row d).undone ended → (row d).undone owed
row_undone (deed.Begin begin.Init) owed ended h memory reading disks u = said_of_reply IsBeforeStoring (λ never. never) owed ended h memory reading disks u
row_undone (deed.Begin (begin.Drill seed count)) owed ended h memory reading disks u = said_of_reply IsBeforeTurns (λ never. never) owed ended h memory reading disks u
row_undone (deed.Work w) owed ended h memory reading disks u = work_undone w owed ended h memory reading disks u

-- ---- what is left

module _ {D : Type 0} (g : disk.Ghosts D) where
  -- the disks are read alone
  pub only_read : (one two one_new two_new : D) → LeavesOnly g one one_new (g.may_leave one) → LeavesOnly g two two_new (g.may_leave two)
      → g.seen one_new ≡ g.seen one → g.seen two_new ≡ g.seen two → LeavesUnwritten g one two one_new two_new
  only_read one two one_new two_new first second seen seen_too = (record { only_one = first; only_two = second }, seen, seen_too)

  -- and nothing more is asked of them
  pub then_untouched : (one two one_mid two_mid one_new two_new : D) → LeavesUnwritten g one two one_mid two_mid → (one_new ≡ one_mid) × (two_new ≡ two_mid)
      → LeavesUnwritten g one two one_new two_new
  then_untouched one two one_mid two_mid one_new two_new unwritten same =
      subst (λ (x : D). LeavesUnwritten g one two one_new x) (sym same.1) (subst (λ (x : D). LeavesUnwritten g one two x two_mid) (sym same.0) unwritten)

  -- a store that isn't as a disk failed left its disks alone
  pub refused_untouched : (T : Type 0) (P : Status → Type 0) → (P status.DiskFault → ⊥) → (e : StoreError) (one two one_new two_new : D) → IsUnchanged {T = T} (Err e) one one_new
      → IsUnchanged {T = T} (Err e) two two_new → (result : Result Reply ActError) → TellsFault e result → EndsWith P result
      → (one_new ≡ one) × (two_new ≡ two)
  refused_untouched T P never error.DiskFault one two one_new two_new same same_too result fault ends = absurd (never (subst (EndsWith P) fault ends))
  refused_untouched T P never (error.Damaged disk at found) one two one_new two_new same same_too result fault ends = (same, same_too)
  refused_untouched T P never (error.Full what count limit) one two one_new two_new same same_too result fault ends = (same, same_too)
  refused_untouched T P never error.AlreadyThere one two one_new two_new same same_too result fault ends = (same, same_too)
  refused_untouched T P never error.OutOfMemory one two one_new two_new same same_too result fault ends = (same, same_too)

  module _ (at_now : (d : D) (image : List ℕ) → g.left_since d (g.moment d) image → g.may_leave d image) where
    -- no disk is asked
    pub none_asked : (one two : D) → LeavesUnwritten g one two one two
    none_asked one two = only_read one two one two (no_call g one (g.may_leave one) (at_now one)) (no_call g two (g.may_leave two) (at_now two)) refl refl

  -- a disk has the image that it read as, where it has another than those before
  reads_again : (old mid new : D) → g.may_leave old (g.seen old) → LeavesOnly g old mid (g.may_leave old) → g.moment mid ≤ g.moment new
      → ((t : ℕ) (image : List ℕ) → t ≤ g.moment mid → g.left_since new t image → g.left_since mid t image ⊎ (image ≡ g.seen old)) → LeavesOnly g old new (g.may_leave old)
  reads_again old mid new reads first later since =
      let again : (image : List ℕ) → image ≡ g.seen old → g.may_leave old image = λ image same. subst (g.may_leave old) (sym same) reads in
      record {
        later = omega (arith, first.later, later);
        each = λ image left. ⊎_elim (first.each image) (again image) (since (g.moment old) image first.later left);
        before = λ t image le left.
            ⊎_elim (λ past. first.before t image le past) (λ same. inr (again image same)) (since t image (omega (arith, le, first.later)) left);
      }

  module _ (counts : (d : D) (t : ℕ) (image : List ℕ) → t ≤ g.moment d → g.may_leave d image → g.left_since d t image) (one two one_new two_new : D) (reads : g.may_leave one (g.seen one))
      (reads_too : g.may_leave two (g.seen two)) (reads_new : g.may_leave one_new (g.seen one_new)) (reads_new_too : g.may_leave two_new (g.seen two_new)) where
    -- the images from the middle on are those that the disks read as
    pub images_again : InTwoParts g one two one_new two_new (AreImages (g.seen one) (g.seen two)) → InOnePart g one two one_new two_new
    images_again parts = record {
      only_one = reads_again one parts.one_between one_new reads parts.first_one parts.later_one
          (λ t a le left.
          ⊎_elim (λ was. inl was) (λ are. inr ((are (g.seen two_new) (counts two_new (g.moment parts.two_between) (g.seen two_new) parts.later_two reads_new_too)).0))
          (parts.since_one t a le left));
      only_two = reads_again two parts.two_between two_new reads_too parts.first_two parts.later_two
          (λ t b le left.
          ⊎_elim (λ was. inl was) (λ are. inr ((are (g.seen one_new) (counts one_new (g.moment parts.one_between) (g.seen one_new) parts.later_one reads_new)).1))
          (parts.since_two t b le left));
    }

    -- `init` that is refused
    pub refused_init : (e : StoreError) → InitLeaves g (Err e) one two one_new two_new → IsUnchanged {T = Store} (Err e) (g.seen one) (g.seen one_new) → g.seen two_new ≡ g.seen two
        → (result : Result Reply ActError) → TellsFault e result → EndsWith IsBeforeStoring result → LeavesUnwritten g one two one_new two_new
    refused_init error.DiskFault leaves seen seen_too result fault ends = absurd (subst (EndsWith IsBeforeStoring) fault ends)
    refused_init (error.Damaged disk at found) leaves seen seen_too result fault ends = (leaves, seen, seen_too)
    refused_init (error.Full what count limit) leaves seen seen_too result fault ends = (leaves, seen, seen_too)
    refused_init error.AlreadyThere leaves seen seen_too result fault ends = (images_again leaves, seen, seen_too)
    refused_init error.OutOfMemory leaves seen seen_too result fault ends = (leaves, seen, seen_too)
