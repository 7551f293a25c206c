-- The parts of a world, which change one at a time while changes apply.
use Rattle.std.specs.Prelude.{ℕ, ◌-◌, ◌≤◌, List, length}
use Rattle.wc_graph.specs.Provenance.{Provenance}
use Rattle.wc_state.specs.declared.record.ProcessRecord.{ProcessRecord}
use Rattle.wc_keys.specs.declared.entries.Sealed.{Sealed}
use Rattle.wc_world.specs.declared.change.Change.{Change}
use Rattle.wc_world.specs.World.{World, Known}
use Rattle.wc_world.specs.Accepted.{Setting, Fits}
use Rattle.wc_world.specs.Room.{Room}
pub use Rattle.wc_keys.specs.Records.{Ascend}

-- records, with how many further ones take no memory
abbrev pub RoomyRecords : Type 0
RoomyRecords = List ProcessRecord × ℕ

-- libraries, with how many further ones take no memory
abbrev pub RoomyLibraries : Type 0
RoomyLibraries = List Known × ℕ

-- entries of calculations that have finished, with for how many of them there are places
abbrev pub RoomySeals : Type 0
RoomySeals = List Sealed × ℕ

-- the world that the parts say in which the code keeps one while changes apply
abbrev pub world_of : Provenance → RoomyRecords → RoomyLibraries → ℕ → World
world_of graph records libraries batches = record {
  nodes = graph.nodes;
  links = graph.links;
  records = records.0;
  libraries = libraries.0;
  batches = batches;
}

-- the room that these parts have
abbrev pub room_of : Provenance → RoomyRecords → RoomyLibraries → RoomySeals → Room
room_of graph records libraries seals = record {
  nodes = graph.node_room;
  links = graph.link_room;
  records = records.1;
  libraries = libraries.1;
  seals = seals.1 - length records.0;
}

-- There is a setting in which the change applies to this world.
abbrev pub CanApply : World → Change → Type 0
CanApply w c = (s : Setting) × Fits s w c

-- Nowhere is there less room than before.
pub record IsAtLeast (before after : Room) : Type 0 where
  pub nodes : before.nodes ≤ after.nodes
  pub links : before.links ≤ after.links
  pub records : before.records ≤ after.records
  pub libraries : before.libraries ≤ after.libraries
  pub seals : before.seals ≤ after.seals
