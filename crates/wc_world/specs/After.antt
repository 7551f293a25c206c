-- What changes add to the nodes of a world.
use Rattle.std.specs.Prelude.{List, Option, Some, None}
use Rattle.std.specs.List.{filter_map}
use Rattle.wc_graph.specs.declared.node.NodeKind.{NodeKind}
use Rattle.wc_graph.specs.declared.node.NodeKind.TheVariants as node
use Rattle.wc_world.specs.declared.change.Change.{Change}
use Rattle.wc_world.specs.declared.change.Change.TheVariants as change
use Rattle.wc_world.specs.Records.{process_node}

-- the node that a change adds, if any
abbrev pub node_in : Change → Option NodeKind
node_in (change.Library l names) = None
node_in (change.Data v) = Some (node.Data v)
node_in (change.Process n) = Some (process_node n.kind)
node_in (change.Link l) = None
node_in (change.Set s) = None
node_in (change.Count n) = None
node_in (change.Kept k) = None

-- the nodes that changes add
abbrev pub nodes_in : List Change → List NodeKind
nodes_in = filter_map node_in
