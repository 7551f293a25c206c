-- What statuses say of a deed.
use Rattle.wc_plan.specs.declared.status.Status.{Status}
use Rattle.wc_plan.specs.declared.status.Status.TheVariants as status

-- the work was done, all of it or as much as it could be, or the store is too full for it
abbrev pub IsDoneOrFull : Status → Type 0
IsDoneOrFull status.Ok = Unit {0}
IsDoneOrFull status.Spent = Unit {0}
IsDoneOrFull status.Resting = Unit {0}
IsDoneOrFull (status.Full what count limit) = Unit {0}
IsDoneOrFull _ = ⊥

-- a refusal, damage or fullness is told
abbrev pub IsRefused : Status → Type 0
IsRefused (status.Refused c) = Unit {0}
IsRefused (status.Damaged disk at found) = Unit {0}
IsRefused (status.Full what count limit) = Unit {0}
IsRefused _ = ⊥
