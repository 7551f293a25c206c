-- A world as changes of the empty world.
use Rattle.std.specs.Prelude.{ℕ, List, [], ◌∷◌, ◌++◌, map, Option, Some, None}
use Rattle.wc_graph.specs.declared.node.NodeKind.{NodeKind}
use Rattle.wc_graph.specs.declared.node.NodeKind.TheVariants as node
use Rattle.wc_state.specs.declared.record.ProcessRecord.{ProcessRecord}
use Rattle.wc_world.specs.declared.change.Change.{Change}
use Rattle.wc_world.specs.declared.change.Change.TheVariants as change
use Rattle.wc_world.specs.World.{World, Known}

-- a number that may be none, as 0 where it is
abbrev pub number_of : Option ℕ → ℕ
number_of None = 0
number_of (Some n) = n

-- the change that adds a library with its names
abbrev pub library_change : Known → Change
library_change k = change.Library k.0 k.1

-- the change that adds a process as it was made
abbrev pub process_change : ProcessRecord → Change
process_change r = change.Process (record {
  kind = r.kind;
  definition = r.definition;
  library = r.library;
  depth = r.depth;
  label = r.label;
  caching = r.caching;
})

-- the nodes in order; each process node takes the next record
abbrev pub node_changes : List NodeKind → List ProcessRecord → List Change
node_changes [] records = []
node_changes (node.Data v ∷ ns) records = change.Data v ∷ node_changes ns records
node_changes (node.Calculation ∷ ns) [] = node_changes ns []
node_changes (node.Calculation ∷ ns) (r ∷ rs) = process_change r ∷ node_changes ns rs
node_changes (node.Workflow ∷ ns) [] = node_changes ns []
node_changes (node.Workflow ∷ ns) (r ∷ rs) = process_change r ∷ node_changes ns rs

-- the change that sets a process as it stands
abbrev pub set_change : ProcessRecord → Change
set_change r = change.Set (record {
  pid = r.node;
  state = r.state;
  paused = r.paused;
  cached_from = number_of r.cached_from;
  fuel = r.fuel;
  code = r.code;
  part = r.part;
})

-- the change that keeps a process's batches of start and end
abbrev pub kept_change : ProcessRecord → Change
kept_change r = change.Kept (record { pid = r.node; started = r.started; ended = r.ended })

-- libraries, nodes, links, a Set for each process, a Kept for each process, and the Count
abbrev pub snapshot : World → List Change
snapshot w =
    map library_change w.libraries
    ++ (node_changes w.nodes w.records
    ++ (map change.Link w.links
    ++ (map set_change w.records
    ++ (map kept_change w.records
    ++ change.Count w.batches ∷ []))))
