-- Which ends of a call say that no disk was written, and what is left then.
use Rattle.std.specs.Prelude.{◌≡◌, Result, Ok, Err}
use Rattle.wc_disk.specs.declared.disk.Disk as disk
use Rattle.wc_store.specs.Stores.{InOnePart}
use Rattle.wc_plan.specs.declared.reply.Reply.{Reply}
use Rattle.wc_plan.specs.declared.status.Status.{Status}
use Rattle.wc_plan.specs.declared.status.Status.TheVariants as status
use Rattle.wc_act.specs.declared.error.ActError.{ActError}
use Rattle.wc_act.specs.declared.error.ActError.TheVariants.{OutOfMemory, DiskFault}

-- Each image of either disk at any moment of the call is one that a crash at entry might have left, and the disks read as before.
abbrev pub LeavesUnwritten : {D : Type 0} → disk.Ghosts D → (one two one_new two_new : D) → Type 0
LeavesUnwritten g one two one_new two_new = InOnePart g one two one_new two_new × (g.seen one_new ≡ g.seen one) × (g.seen two_new ≡ g.seen two)

-- ---- by the status

-- `run` was refused before its first turn, or `drill` before a store was made
abbrev pub IsBeforeTurns : Status → Type 0
IsBeforeTurns (status.Refused c) = Unit {0}
IsBeforeTurns (status.Damaged disk at found) = Unit {0}
IsBeforeTurns status.ReadFault = Unit {0}
IsBeforeTurns _ = ⊥

-- `pack` was refused, or the store was full
abbrev pub IsBeforePacking : Status → Type 0
IsBeforePacking (status.Refused c) = Unit {0}
IsBeforePacking (status.Damaged disk at found) = Unit {0}
IsBeforePacking status.ReadFault = Unit {0}
IsBeforePacking (status.Full what count limit) = Unit {0}
IsBeforePacking _ = ⊥

-- `init` or an event was refused, or memory ran out, or the store was too full for the event
abbrev pub IsBeforeStoring : Status → Type 0
IsBeforeStoring (status.Refused c) = Unit {0}
IsBeforeStoring (status.Damaged disk at found) = Unit {0}
IsBeforeStoring status.ReadFault = Unit {0}
IsBeforeStoring (status.Full what count limit) = Unit {0}
IsBeforeStoring status.OutOfMemory = Unit {0}
IsBeforeStoring _ = ⊥

-- ---- by a result

-- the status of a deed that ends with an error
abbrev pub ended_by : ActError → Status
ended_by OutOfMemory = status.OutOfMemory
ended_by DiskFault = status.DiskFault

-- no disk failed
abbrev pub IsUnbroken : Result Reply ActError → Type 0
IsUnbroken (Ok r) = Unit {0}
IsUnbroken (Err OutOfMemory) = Unit {0}
IsUnbroken (Err DiskFault) = ⊥

-- P holds of the status that a reply has, or with which a deed ends that has none
abbrev pub EndsWith : (Status → Type 0) → Result Reply ActError → Type 0
EndsWith P (Ok r) = P r.status
EndsWith P (Err e) = P (ended_by e)
