-- The first of some findings, one after the other.
use Rattle.std.specs.Prelude.{◌≡◌, ℕ, nat_lt, Bool, false, List, [], ◌∷◌, if◌then◌else◌, Option, Some, None}
use Rattle.std.specs.Ordering.{is_lt}
use Rattle.wc_syntax.specs.Findings.{Finding, is_among}
use Rattle.wc_syntax.specs.First.{finding_cmp}
use Rattle.wc_check.specs.declared.best.Fault.{Fault}
use Rattle.wc_check.specs.declared.best.Fault.TheVariants as fault
use Rattle.wc_check.specs.declared.best.Told.{Told}
use Rattle.wc_check.specs.declared.best.Told.TheVariants as name

-- the lesser of the two; of two that are equal, the earlier
abbrev pub lesser : Option Finding → Finding → Option Finding
lesser None f = Some f
lesser (Some g) f = if is_lt (finding_cmp f g) then Some f else Some g

-- the least of all
abbrev pub least_after : Option Finding → List Finding → Option Finding
least_after best [] = best
least_after best (f ∷ fs) = least_after (lesser best f) fs

-- the first so far stands before a place
abbrev pub stands_before : Option Finding → ℕ → Bool
stands_before None at = false
stands_before (Some f) at = nat_lt f.at at

-- the number of a rule, by which rules are ordered
abbrev pub number_of : Fault → ℕ
number_of fault.Twice = 1
number_of fault.Unknown = 2
number_of fault.PortMissing = 3
number_of fault.PortUnknown = 4
number_of fault.NotData = 5
number_of fault.BadStatus = 6
number_of fault.TooMany = 7
number_of fault.BadName = 8

-- the name, or the digits of a number
abbrev pub told : Told → List ℕ
told (name.Name n) = n.now
told (name.Digits n) = n

-- the two have the same members, by a test of them
abbrev pub AgreeAt : {A : Type 0} → (A → List A → Bool) → List A → List A → Type 0
AgreeAt {A} is_in xs ys = (a : A) → is_in a xs ≡ is_in a ys

-- the two have the same names
abbrev pub Agree : List (List ℕ) → List (List ℕ) → Type 0
Agree = AgreeAt is_among
