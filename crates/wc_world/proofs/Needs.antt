-- The room that changes take.
use Rattle.std.proofs.Common.{◌≡◌, ℕ, suc, ◌+◌, ◌≤◌, List, [], ◌∷◌, length, refl, ap, arith}
use Rattle.wc_world.specs.declared.change.Change.{Change}
use Rattle.wc_world.specs.declared.change.Change.TheVariants as change
use Rattle.wc_world.specs.Room.{Room, HasRoom, needed}

-- One room is both others together.
pub record AddsUp (whole part rest : Room) : Type 0 where
  pub nodes : whole.nodes ≡ part.nodes + rest.nodes
  pub links : whole.links ≡ part.links + rest.links
  pub records : whole.records ≡ part.records + rest.records
  pub libraries : whole.libraries ≡ part.libraries + rest.libraries
  pub seals : whole.seals ≡ part.seals + rest.seals

pub needed_cons : (c : Change) (cs : List Change) → AddsUp (needed (c ∷ cs)) (needed (c ∷ [])) (needed cs)
needed_cons (change.Library l names) cs = record { nodes = omega arith; links = omega arith; records = omega arith; libraries = omega arith; seals = omega arith }
needed_cons (change.Data v) cs = record { nodes = omega arith; links = omega arith; records = omega arith; libraries = omega arith; seals = omega arith }
needed_cons (change.Process n) cs = record { nodes = omega arith; links = omega arith; records = omega arith; libraries = omega arith; seals = omega arith }
needed_cons (change.Link l) cs = record { nodes = omega arith; links = omega arith; records = omega arith; libraries = omega arith; seals = omega arith }
needed_cons (change.Set s) cs = record { nodes = omega arith; links = omega arith; records = omega arith; libraries = omega arith; seals = omega arith }
needed_cons (change.Count n) cs = record { nodes = omega arith; links = omega arith; records = omega arith; libraries = omega arith; seals = omega arith }
needed_cons (change.Kept k) cs = record { nodes = omega arith; links = omega arith; records = omega arith; libraries = omega arith; seals = omega arith }

-- what has room for changes has room for the first
pub room_for_first : (room : Room) (c : Change) (cs : List Change) → HasRoom room (c ∷ cs) → HasRoom room (c ∷ [])
room_for_first room c cs h =
    let sum = needed_cons c cs in
    record {
      nodes = omega (arith, sum.nodes, h.nodes);
      links = omega (arith, sum.links, h.links);
      records = omega (arith, sum.records, h.records);
      libraries = omega (arith, sum.libraries, h.libraries);
      seals = omega (arith, sum.seals, h.seals);
    }

-- Each change takes at most one place anywhere.
pub record IsShort (room : Room) (count : ℕ) : Type 0 where
  pub nodes : room.nodes ≤ count
  pub links : room.links ≤ count
  pub records : room.records ≤ count
  pub libraries : room.libraries ≤ count
  pub seals : room.seals ≤ count

one_is_short : (c : Change) → IsShort (needed (c ∷ [])) 1
one_is_short (change.Library l names) = record { nodes = omega arith; links = omega arith; records = omega arith; libraries = omega arith; seals = omega arith }
one_is_short (change.Data v) = record { nodes = omega arith; links = omega arith; records = omega arith; libraries = omega arith; seals = omega arith }
one_is_short (change.Process n) = record { nodes = omega arith; links = omega arith; records = omega arith; libraries = omega arith; seals = omega arith }
one_is_short (change.Link l) = record { nodes = omega arith; links = omega arith; records = omega arith; libraries = omega arith; seals = omega arith }
one_is_short (change.Set s) = record { nodes = omega arith; links = omega arith; records = omega arith; libraries = omega arith; seals = omega arith }
one_is_short (change.Count n) = record { nodes = omega arith; links = omega arith; records = omega arith; libraries = omega arith; seals = omega arith }
one_is_short (change.Kept k) = record { nodes = omega arith; links = omega arith; records = omega arith; libraries = omega arith; seals = omega arith }

pub needed_is_short : (cs : List Change) → IsShort (needed cs) (length cs)
needed_is_short [] = record { nodes = omega arith; links = omega arith; records = omega arith; libraries = omega arith; seals = omega arith }
needed_is_short (c ∷ cs) =
    let sum = needed_cons c cs in
    let one = one_is_short c in
    let rest = needed_is_short cs in
    record { nodes = omega arith; links = omega arith; records = omega arith; libraries = omega arith; seals = omega arith }

-- each new process takes a place for a digest too
pub needed_seals : (cs : List Change) → (needed cs).seals ≡ (needed cs).records
needed_seals [] = refl
needed_seals (change.Library l names ∷ cs) = needed_seals cs
needed_seals (change.Data v ∷ cs) = needed_seals cs
needed_seals (change.Process n ∷ cs) = ap suc (needed_seals cs)
needed_seals (change.Link l ∷ cs) = needed_seals cs
needed_seals (change.Set s ∷ cs) = needed_seals cs
needed_seals (change.Count n ∷ cs) = needed_seals cs
needed_seals (change.Kept k ∷ cs) = needed_seals cs
