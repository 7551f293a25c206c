-- Room for the nodes of a world after changes is room for those before.
use Rattle.std.proofs.Common.{ℕ, ◌+◌, ◌≤◌, List, [], ◌∷◌, ◌++◌, length, arith}
use Rattle.std.proofs.lemmas.List.{length-append}
use Rattle.wc_graph.specs.declared.node.NodeKind.{NodeKind}
use Rattle.wc_graph.specs.declared.node.NodeKind.TheVariants as node
use Rattle.wc_world.specs.declared.change.Change.{Change}
use Rattle.wc_world.specs.declared.change.Change.TheVariants as change
use Rattle.wc_world.specs.World.{World}
use Rattle.wc_world.specs.Applied.{after_change, applied, begun, changed}
use Rattle.wc_world.specs.Records.{process_node}
use Rattle.wc_machine.specs.Laws.{HasPlaces}

one_longer : (ns : List NodeKind) (n : NodeKind) → length ns ≤ length (ns ++ n ∷ [])
one_longer ns n = let e = length-append ns (n ∷ []) in omega (arith, e)

-- a change takes no node away
kept_by : (batch : ℕ) (w : World) (c : Change) → length w.nodes ≤ length (after_change batch w c).nodes
kept_by batch w (change.Library l names) = omega arith
kept_by batch w (change.Data v) = one_longer w.nodes (node.Data v)
kept_by batch w (change.Process n) = one_longer w.nodes (process_node n.kind)
kept_by batch w (change.Link l) = omega arith
kept_by batch w (change.Set s) = omega arith
kept_by batch w (change.Count n) = omega arith
kept_by batch w (change.Kept k) = omega arith

kept_after : (batch : ℕ) (w : World) (cs : List Change) → length w.nodes ≤ length (changed batch w cs).nodes
kept_after batch w [] = omega arith
kept_after batch w (c ∷ cs) =
    let a = kept_by batch w c in
    let b = kept_after batch (after_change batch w c) cs in
    omega (arith, a, b)

pub room_before : (w : World) (cs : List Change) → HasPlaces w (length (applied w cs).nodes) → HasPlaces w (length w.nodes)
room_before w cs p =
    let more = kept_after (w.batches + 1) (begun w) cs in
    let room = p.nodes in
    record { nodes = omega (arith, more, room); batches = p.batches }
