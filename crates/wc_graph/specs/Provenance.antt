-- What contracts see of a graph.
use Rattle.std.specs.Prelude.{ℕ, List}
use Rattle.wc_graph.specs.declared.node.NodeKind.{NodeKind}
use Rattle.wc_graph.specs.declared.link.Link.{Link}

-- the nodes and the links, each with the number of further ones that take no memory
pub record Provenance : Type 0 where
  pub nodes : List NodeKind
  pub links : List Link
  pub node_room : ℕ
  pub link_room : ℕ
