-- The ends of the links of a link-correct graph.
use Rattle.std.proofs.Common.{ℕ, zero, suc, ◌<◌, List, [], ◌∷◌, length, All, IsSomeAnd, arith}
use Rattle.std.specs.List.{slice_get}
use Rattle.wc_graph.specs.declared.node.NodeKind.{NodeKind}
use Rattle.wc_graph.specs.declared.link.Link.{Link}
use Rattle.wc_graph.specs.Rules.{node_of, IsLinkCorrect}
use Rattle.wc_graph.specs.Near.{EndsAreWithin}
use Rattle.wc_graph.specs.Reached.{IsNode}

some_within : (nodes : List NodeKind) (k : ℕ) (P : NodeKind → Type 0) → IsSomeAnd (slice_get nodes k) P → k < length nodes
some_within [] k P h = absurd h
some_within (n ∷ ns) zero P h = omega arith
some_within (n ∷ ns) (suc k) P h = let r = some_within ns k P h in omega arith

pub node_within : (nodes : List NodeKind) (id : ℕ) (P : NodeKind → Type 0) → IsSomeAnd (node_of nodes id) P → IsNode nodes id
node_within nodes zero P h = absurd h
node_within nodes (suc k) P h = let r = some_within nodes k P h in (omega arith, omega arith)

pub ends_are_nodes : (nodes : List NodeKind) (links : List Link) → IsLinkCorrect nodes links → All (λ l. IsNode nodes l.source × IsNode nodes l.target) links
ends_are_nodes nodes links c k d lt =
    let h = c.ends k d lt in (node_within nodes _ _ h.0, node_within nodes _ _ h.1)

pub ends_within : (nodes : List NodeKind) (links : List Link) → IsLinkCorrect nodes links → EndsAreWithin (length nodes) links
ends_within nodes links c k d lt = let h = ends_are_nodes nodes links c k d lt in (h.0.1, h.1.1)
