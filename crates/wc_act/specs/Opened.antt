-- What a store is opened as, and what is told of its refusals.
use Rattle.std.specs.Prelude.{◌≡◌, ℕ, true, IsSome, IsTrue, Option, Some, None, Result, Err}
use Rattle.wc_disk.specs.declared.disk.Disk as disk
use Rattle.wc_machine.specs.declared.error.TurnError.{TurnError}
use Rattle.wc_machine.specs.declared.error.TurnError.TheVariants as turn_error
use Rattle.wc_store.specs.declared.error.StoreError.{StoreError}
use Rattle.wc_store.specs.declared.error.StoreError.TheVariants as store_error
use Rattle.wc_store.specs.Held.{Standing, nothing, damage, a_world}
use Rattle.wc_store.specs.declared.store.Store.{Store}
use Rattle.wc_store.specs.Stores.{StandsFor, HasImages}
use Rattle.wc_plan.specs.declared.reply.Reply.{Reply}
use Rattle.wc_plan.specs.declared.status.Cause.{Cause}
use Rattle.wc_plan.specs.declared.status.Cause.TheVariants as cause
use Rattle.wc_act.specs.declared.opened.Opened.{Opened}
use Rattle.wc_act.specs.declared.opened.Opened.TheVariants as opened
use Rattle.wc_act.specs.declared.error.ActError.{ActError}
use Rattle.wc_act.specs.declared.error.ActError.TheVariants.{DiskFault}
use Rattle.wc_plan.specs.Replies.{refuses}
use Rattle.wc_act.specs.Owed.{visit, OfVisit}
use Rattle.wc_act.specs.Statuses.{IsDoneOrFull, IsRefused}
use Rattle.wc_act.specs.StoreDeeds.{Images, Hold, is_damaged, is_full}

-- what is told of a refusal, if anything is
abbrev pub store_reply : StoreError → Option Reply
store_reply store_error.DiskFault = None
store_reply (store_error.Damaged disk at found) = Some (is_damaged disk at found)
store_reply (store_error.Full what count limit) = Some (is_full what count limit)
store_reply store_error.AlreadyThere = Some (refuses cause.StoreExists)
store_reply store_error.OutOfMemory = None

-- a fault of a disk is told as one
abbrev pub TellsFault : {T : Type 0} → StoreError → Result T ActError → Type 0
TellsFault store_error.DiskFault result = result ≡ Err DiskFault
TellsFault (store_error.Damaged disk at found) result = Unit {0}
TellsFault (store_error.Full what count limit) result = Unit {0}
TellsFault store_error.AlreadyThere result = Unit {0}
TellsFault store_error.OutOfMemory result = Unit {0}

-- what is told where there is no process of this number, or it has ended
abbrev pub process_reply : Option ℕ → (ℕ → Cause) → Option Reply
process_reply None c = None
process_reply (Some pid) c = Some (refuses (c pid))

-- what is told where an event, which may be one of the process of this number, has no changes, if anything is
abbrev pub turn_reply : Option ℕ → TurnError → Option Reply
turn_reply pid turn_error.NotReady = None
turn_reply pid (turn_error.Full what count limit) = Some (is_full what count limit)
turn_reply pid turn_error.UnknownProcess = process_reply pid cause.UnknownProcess
turn_reply pid (turn_error.Ended state) = process_reply pid (λ n. cause.Ended n state)
turn_reply pid turn_error.UnknownName = None
turn_reply pid (turn_error.BadInputs port) = None
turn_reply pid turn_error.OutOfMemory = None

-- something is told, or memory ran out
abbrev pub IsTold : Option ℕ → TurnError → Type 0
IsTold pid turn_error.NotReady = ⊥
IsTold pid (turn_error.Full what count limit) = Unit {0}
IsTold pid turn_error.UnknownProcess = IsSome pid
IsTold pid (turn_error.Ended state) = IsSome pid
IsTold pid turn_error.UnknownName = ⊥
IsTold pid (turn_error.BadInputs port) = ⊥
IsTold pid turn_error.OutOfMemory = Unit {0}

-- what is told where the disks hold no world
abbrev pub TellsAt : Standing → Reply → Type 0
TellsAt nothing r = r ≡ refuses cause.NoStore
TellsAt (damage disk at found) r = r ≡ is_damaged disk at found
TellsAt (a_world w) r = ⊥

-- The images hold no world, and are the same at exit.
pub record HasNoWorld (before after : Images) (r : Reply) : Type 0 where
  pub standing : Standing
  pub held : Hold before standing
  pub still : after ≡ before
  pub tells : TellsAt standing r

-- The store stands for the disks, and holds the world that they held before.
pub record HasOpened {D : Type 0} (g : disk.Ghosts D) (store : Store) (one two one_new two_new : D) : Type 0 where
  pub stands : StandsFor g store one_new two_new
  pub seen_one : g.seen one_new ≡ g.seen one
  pub seen_two : g.seen two_new ≡ g.seen two

-- What is told is told of images that hold no world, and a store stands for the disks, where they tell their bytes, and is one of some two images.
abbrev pub Opens : {D : Type 0} → disk.Ghosts D → (one two one_new two_new : D) → Opened → Type 0
Opens g one two one_new two_new (opened.Reply r) = OfVisit (visit g one two one_new two_new) (λ before after. HasNoWorld before after r)
Opens g one two one_new two_new (opened.Store store) =
    (IsTrue (g.tells one) → IsTrue (g.tells two) → HasOpened g store one two one_new two_new) × HasImages store

-- a store that was opened is live
abbrev pub IsHeldLive : Opened → Type 0
IsHeldLive (opened.Reply r) = Unit {0}
IsHeldLive (opened.Store store) = store.live ≡ true

-- what is told is told with the status of a reply
abbrev pub IsToldReplied : Opened → Type 0
IsToldReplied (opened.Reply r) = IsRefused r.status
IsToldReplied (opened.Store store) = Unit {0}

-- what is told where no store was opened says neither that the work was done nor that the store is too full
abbrev pub IsToldUndone : Opened → Type 0
IsToldUndone (opened.Reply r) = IsDoneOrFull r.status → ⊥
IsToldUndone (opened.Store store) = Unit {0}
