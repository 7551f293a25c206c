-- The room that a world has for further items.
use Rattle.std.specs.Prelude.{ℕ, suc, ◌≤◌, Bool, List, [], ◌∷◌}
use Rattle.wc_world.specs.declared.change.Change.{Change}
use Rattle.wc_world.specs.declared.change.Change.TheVariants as change
use Rattle.wc_world.specs.World.{World}

-- how many further items take no memory
pub record Room : Type 0 where
  pub nodes : ℕ
  pub links : ℕ
  pub records : ℕ
  pub libraries : ℕ
  -- for how many further processes there is a place for a digest
  pub seals : ℕ

-- a world with its room, and whether the digests of what has finished are made
pub record Holding : Type 0 where
  pub world : World
  pub room : Room
  pub digested : Bool

-- room for one more node
abbrev pub with_node : Room → Room
with_node r = record { nodes = suc r.nodes; links = r.links; records = r.records; libraries = r.libraries; seals = r.seals }

-- room for one more link
abbrev pub with_link : Room → Room
with_link r = record { nodes = r.nodes; links = suc r.links; records = r.records; libraries = r.libraries; seals = r.seals }

-- room for one more process, with its node, its record and its digest
abbrev pub with_process : Room → Room
with_process r = record { nodes = suc r.nodes; links = r.links; records = suc r.records; libraries = r.libraries; seals = suc r.seals }

-- room for one more library
abbrev pub with_library : Room → Room
with_library r = record { nodes = r.nodes; links = r.links; records = r.records; libraries = suc r.libraries; seals = r.seals }

-- the room that changes take
abbrev pub needed : List Change → Room
needed [] = record { nodes = 0; links = 0; records = 0; libraries = 0; seals = 0 }
needed (change.Library l names ∷ cs) = with_library (needed cs)
needed (change.Data v ∷ cs) = with_node (needed cs)
needed (change.Process n ∷ cs) = with_process (needed cs)
needed (change.Link l ∷ cs) = with_link (needed cs)
needed (change.Set s ∷ cs) = needed cs
needed (change.Count n ∷ cs) = needed cs
needed (change.Kept k ∷ cs) = needed cs

-- There is room for what the changes add.
pub record HasRoom (room : Room) (cs : List Change) : Type 0 where
  pub nodes : (needed cs).nodes ≤ room.nodes
  pub links : (needed cs).links ≤ room.links
  pub records : (needed cs).records ≤ room.records
  pub libraries : (needed cs).libraries ≤ room.libraries
  pub seals : (needed cs).seals ≤ room.seals
