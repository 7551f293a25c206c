use Rattle.std.proofs.Common.{◌≡◌, Some, List, ℕ, sym, ap, ◌∙◌}
use Rattle.std.specs.Prelude.{None, option_and_then}
use Rattle.std.specs.Option.{option_copied}
use Rattle.std.proofs.lemmas.Result.{IfOk-weaker}
use Rattle.wc_graph.specs.Rules.{node_of}
use Rattle.wc_graph.specs.declared.node.NodeKind.{NodeKind}
use Rattle.wc_archive.specs.Closure.{archived_kind, archived_node}
use Rattle.wc_archive.proofs.archived.archived_node.Goals as goal

pub returns-in-Some : goal.returns-in-Some
returns-in-Some c =
    let w = c.args.world.now.world in
    let id = c.args.id in
    let nodes : c.as_slice.result.now ≡ w.nodes = c.as_slice.ensures ∙ ap (λ (p : List NodeKind × ℕ). p.0) c.nodes.ensures.value ∙ c.graph.ensures.nodes.0 in
    let there : Some c.in-Some.kind.now ≡ node_of w.nodes id
    = sym (ap option_copied c.in-Some.is) ∙ c.node_of.ensures ∙ ap (λ (ns : List NodeKind). node_of ns id) nodes in
    IfOk-weaker c.archived_kind.result (λ node. node ≡ archived_kind w id c.in-Some.kind.now) (λ node. node ≡ archived_node w id)
    (λ node e. e ∙ ap (option_and_then (archived_kind w id)) there) c.archived_kind.ensures

pub returns-in-None : goal.returns-in-None
returns-in-None c =
    let w = c.args.world.now.world in
    let id = c.args.id in
    let nodes : c.as_slice.result.now ≡ w.nodes = c.as_slice.ensures ∙ ap (λ (p : List NodeKind × ℕ). p.0) c.nodes.ensures.value ∙ c.graph.ensures.nodes.0 in
    let there : None ≡ node_of w.nodes id
    = sym (ap option_copied c.in-None.is) ∙ c.node_of.ensures ∙ ap (λ (ns : List NodeKind). node_of ns id) nodes in
    ap (option_and_then (archived_kind w id)) there
