-- What jobs asked and their results, one after another.
use Rattle.std.specs.Prelude.{◌≡◌, ◌≢◌, ◌↔◌, ◌⊎◌, ℕ, ◌<◌, nat_le, Bool, true, if◌then◌else◌, List, [], ◌∷◌, Vec, Option, Some, None}
use Rattle.std.specs.Ordering.{nat_cmp}
use Rattle.std.specs.Str.{bytes_eq}
use Rattle.std.specs.Cmp.Lexicographic.{slice_cmp}
use Rattle.std.specs.BTreeMap.{BTreeMap, get_by}
use Rattle.std.specs.declared.alloc.Global.{Global}
use Rattle.wc_value.specs.declared.process.JobResult.{JobResult}
use Rattle.wc_verify.specs.Faults.{IsNotAfter}
use Rattle.wc_verify.specs.declared.firsts.First.{First}
use Rattle.wc_verify.specs.declared.firsts.Firsts.{Firsts}

-- a job's number, the bytes of what it asked, and its result
pub record Noted : Type 0 where
  pub pid : ℕ
  pub asked : List ℕ
  pub result : JobResult

-- something noted is in a list
abbrev pub Stands : Noted → List Noted → Type 0
Stands a [] = ⊥
Stands a (n ∷ ns) = (n ≡ a) ⊎ Stands a ns

-- all that is noted is of processes below a number
abbrev pub AreBelow : ℕ → List Noted → Type 0
AreBelow pid ns = (a : Noted) → Stands a ns → a.pid < pid

-- the numbers ascend
abbrev pub Ascend : List Noted → Type 0
Ascend [] = Unit {0}
Ascend (n ∷ ns) = ((a : Noted) → Stands a ns → n.pid < a.pid) × Ascend ns

-- these two asked the same, and have different results
pub record IsPair (ns : List Noted) (p : ℕ × ℕ) : Type 0 where
  pub one : Noted
  pub other : Noted
  pub one_stands : Stands one ns
  pub other_stands : Stands other ns
  pub before : one.pid < other.pid
  pub asked : one.asked ≡ other.asked
  pub results : one.result ≢ other.result
  pub is : p ≡ (one.pid, other.pid)

-- the pair is one of jobs that disagree, or there is none
abbrev pub IsPairOrNone : List Noted → Option (ℕ × ℕ) → Type 0
IsPairOrNone ns None = Unit {0}
IsPairOrNone ns (Some p) = IsPair ns p

-- two that asked the same have equal results, where no pair is the least; else they are no pair before it
abbrev pub Settles : Option (ℕ × ℕ) → Noted → Noted → Type 0
Settles None a b = a.result ≡ b.result
Settles (Some p) a b = a.result ≢ b.result → IsNotAfter p (a.pid, b.pid)

-- the least pair of different results, and none exactly where those that asked the same have equal results
pub record IsLeastPair (ns : List Noted) (least : Option (ℕ × ℕ)) : Type 0 where
  pub pair : IsPairOrNone ns least
  pub settles : (a b : Noted) → Stands a ns → Stands b ns → a.pid < b.pid → a.asked ≡ b.asked → Settles least a b

-- ---- what the search keeps

-- the first job that is kept for a request
abbrev pub first_named : List ℕ → BTreeMap (Vec ℕ Global) First → Option First
first_named asked = get_by (λ k. slice_cmp nat_cmp asked k.items)

-- the first that asked this
abbrev pub first_among : List ℕ → List Noted → Option First
first_among asked [] = None
first_among asked (n ∷ ns) = if bytes_eq n.asked asked then Some (record { pid = n.pid; result = n.result }) else first_among asked ns

-- the answer says of the first job which it is, and whether its result is the one that is given
abbrev pub FitsFirst : JobResult → Option First → Option (ℕ × Bool) → Type 0
FitsFirst given None None = Unit {0}
FitsFirst given None (Some answer) = ⊥
FitsFirst given (Some f) None = ⊥
FitsFirst given (Some f) (Some answer) = (answer.0 ≡ f.pid) × ((answer.1 ≡ true) ↔ (f.result ≡ given))

-- the lesser of a pair that may be there and another one, by their first jobs; at a tie the one that was there
abbrev pub lesser : Option (ℕ × ℕ) → ℕ → ℕ → Option (ℕ × ℕ)
lesser None first second = Some (first, second)
lesser (Some p) first second = if nat_le p.0 first then Some p else Some (first, second)

-- what is kept of all that was noted, in ascending order: the first job of each request, and the least pair that disagrees
pub record AreFirsts (ns : List Noted) (f : Firsts) : Type 0 where
  pub ascend : Ascend ns
  pub firsts : (asked : List ℕ) → first_named asked f.by_request ≡ first_among asked ns
  pub least : IsLeastPair ns f.least
