-- What is written, and the status once it is.
use Rattle.std.specs.Prelude.{◌≡◌, ℕ, List, ◌++◌, Option, option_map}
use Rattle.wc_plan.specs.declared.reply.Reply.{Reply}
use Rattle.wc_plan.specs.declared.status.Cause.{Cause}
use Rattle.wc_plan.specs.declared.status.Status.{Status}
use Rattle.wc_plan.specs.declared.status.Status.TheVariants as status
use Rattle.wc_plan.specs.Texts.{refusal_text}

-- The exit status of the program, 0 to 10
abbrev pub code_of : Status → ℕ
code_of status.Ok = 0
code_of (status.Refused cause) = 1
code_of status.OutOfMemory = 2
code_of status.Spent = 3
code_of status.Resting = 4
code_of status.DiskFault = 5
code_of (status.Damaged disk at found) = 6
code_of status.ReadFault = 7
code_of status.WriteFault = 8
code_of (status.Full what count most) = 9
code_of (status.Unsound fault) = 10

-- the command is refused, and its line says why
abbrev pub refuses : Cause → Reply
refuses c = record { status = status.Refused c; text = refusal_text c }

-- the work was done, and the text is printed
abbrev pub prints : List ℕ → Reply
prints text = record { status = status.Ok; text = text }

-- a status that a reply has: neither want of memory nor a fault
abbrev pub IsReplied : Status → Type 0
IsReplied status.OutOfMemory = ⊥
IsReplied status.DiskFault = ⊥
IsReplied status.ReadFault = ⊥
IsReplied status.WriteFault = ⊥
IsReplied _ = Unit {0}

-- ---- how a call ends

-- the bytes were written behind what was there, where the sink tells
abbrev pub Writes : List ℕ → Option (List ℕ) → Option (List ℕ) → Type 0
Writes bytes old new = new ≡ option_map (λ before. before ++ bytes) old

-- the status is that of a reply, where there was neither want of memory nor a fault of the shelf, a disk or the sink
abbrev pub OwesStatus : Status → Status → Type 0
OwesStatus owed status.OutOfMemory = Unit {0}
OwesStatus owed status.DiskFault = Unit {0}
OwesStatus owed status.ReadFault = Unit {0}
OwesStatus owed status.WriteFault = Unit {0}
OwesStatus owed ended = ended ≡ owed
