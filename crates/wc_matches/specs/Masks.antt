-- Numbers of nodes whose bits say which of some ends belong to them.
use Rattle.std.specs.Prelude.{◌≡◌, ◌==◌, ◌⊎◌, ◌<◌, ◌↔◌, ◌-◌, ℕ, suc, Bool, true, false, if◌then◌else◌, List, [], ◌∷◌, length, Contains, Some, slice_get, slice_index_or}
use Rattle.std.specs.Int.{bit_at}
use Rattle.wc_graph.specs.declared.link.Link.{Link}
use Rattle.wc_query.specs.declared.query.LinkTest.{LinkTest}
use Rattle.wc_matches.specs.Found.{start_of, end_of}
use Rattle.wc_matches.specs.Joins.{IsJoined}

-- the bit at a place is set in a node's number
abbrev pub HasBit : List ℕ → ℕ → ℕ → Type 0
HasBit masks n b = bit_at (slice_index_or masks n 0) b ≡ 1

-- in a node's number the bits of those ends are set that it is
abbrev pub AreOwn : List ℕ → List ℕ → Type 0
AreOwn ends own = (n b : ℕ) → b < length ends → (HasBit own n b ↔ (slice_index_or ends b 0 ≡ n))

-- What a link brings from the node that it leads to: the node's own bits, and by a walk those that were brought to it.
abbrev pub Brings : Bool → List ℕ → List ℕ → ℕ → ℕ → Type 0
Brings walk own masks m b = HasBit own m b ⊎ ((walk ≡ true) × HasBit masks m b)

-- a link of the types has brought what it brings to the node that it leads from
abbrev pub HasBrought : LinkTest → List ℕ → List ℕ → Link → Type 0
HasBrought join own masks l = Contains join.types l.link → (b : ℕ) → Brings join.walk own masks (end_of join.forward l) b → HasBit masks (start_of join.forward l) b

-- each link has
abbrev pub HaveBrought : List Link → LinkTest → List ℕ → List ℕ → Type 0
HaveBrought links join own masks = (k : ℕ) (l : Link) → slice_get links k ≡ Some l → HasBrought join own masks l

-- each bit that a node has is the own bit of a node that the join leads to
abbrev pub AreSound : List Link → LinkTest → List ℕ → List ℕ → Type 0
AreSound links join own masks = (n b : ℕ) → HasBit masks n b → (m : ℕ) × IsJoined links join n m × HasBit own m b

-- in a node's number exactly the bits of those ends are set that the join leads to
abbrev pub AreMasks : List Link → LinkTest → List ℕ → List ℕ → Type 0
AreMasks links join ends masks = (n b : ℕ) → b < length ends → (HasBit masks n b ↔ IsJoined links join n (slice_index_or ends b 0))

-- those of some ends whose bits are set, from this bit on
abbrev pub masked : List ℕ → ℕ → ℕ → List ℕ
masked [] b mask = []
masked (end ∷ ends) b mask = if bit_at mask b == 1 then end ∷ masked ends (suc b) mask else masked ends (suc b) mask

-- the place that comes so many behind the first one, or in front of the last one
abbrev pub nth_place : Bool → ℕ → ℕ → ℕ
nth_place true count n = count - 1 - n
nth_place false count n = n
