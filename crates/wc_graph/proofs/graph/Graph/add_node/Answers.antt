use Rattle.std.proofs.Common.{◌≤◌, ◌∷◌, ◌++◌, [], List, length, arith, sym, subst}
use Rattle.std.proofs.lemmas.List.{length_push}
use Rattle.wc_graph.specs.declared.node.NodeKind.{NodeKind}
use Rattle.wc_graph.specs.Rules.{IsLinkCorrect}
use Rattle.wc_graph.specs.Index.{IsIndexed, source_of, target_of}
use Rattle.wc_graph.proofs.Correct.{node_keeps_correct}
use Rattle.wc_graph.proofs.Indexing.{with_node, sources_within, targets_within}
use Rattle.wc_graph.proofs.graph.Graph.add_node.Goals as goal

pub returns-clause-correct : goal.returns-clause-correct
returns-clause-correct c =
    let old = c.self.inside in
    subst (λ (ns : List NodeKind). IsLinkCorrect ns old.links.0) (sym c.in_ok-push.ensures.ok)
    (node_keeps_correct old.nodes.0 old.links.0 c.args.kind c.self.invariant.0)

pub invariant_of-self-2 : goal.invariant_of-self-2
invariant_of-self-2 c =
    let old = c.self.inside in
    let i = c.self.invariant in
    let added = c.in_ok-push.ensures.ok in
    let few : length (old.nodes.0 ++ c.args.kind ∷ []) ≤ 8000000 = omega (arith, length_push old.nodes.0 c.args.kind, c.if-count-ge-MOST_NODES.false, c.len-count.ensures.value) in
    let a = c.add_node.ensures in
    let b = c.add_node-2.ensures in (
      returns-clause-correct c,
      subst (λ (ns : List NodeKind). length ns ≤ 8000000) (sym added) few,
      subst (λ (ns : List NodeKind). IsIndexed source_of old.links.0 (length ns) c.add_node.new.self) (sym added)
          (with_node source_of old.nodes.0 old.links.0 c.args.kind old.by_source c.add_node.new.self (sources_within old.nodes.0 old.links.0 i.0) i.2 a.whole a.last a.before),
      subst (λ (ns : List NodeKind). IsIndexed target_of old.links.0 (length ns) c.add_node-2.new.self) (sym added)
          (with_node target_of old.nodes.0 old.links.0 c.args.kind old.by_target c.add_node-2.new.self (targets_within old.nodes.0 old.links.0 i.0) i.3 b.whole b.last b.before),
      i.4,
      i.5,
    )
