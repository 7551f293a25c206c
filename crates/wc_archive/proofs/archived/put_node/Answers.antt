use Rattle.std.proofs.Common.{sym, ◌∙◌}
use Rattle.wc_archive.specs.Closure.{archived_node}
use Rattle.wc_archive.proofs.Exporting.{node_left, node_none, node_put}
use Rattle.wc_archive.proofs.archived.put_node.Goals as goal

pub returns-then-not-is_marked : goal.returns-then-not-is_marked
returns-then-not-is_marked c =
    node_left (archived_node c.args.world.now.world) c.args.marks.now c.args.nodes.now c.args.id (sym c.is_marked.ensures ∙ c.if-not-is_marked.true)

pub returns-in_ok-push-in-Some : goal.returns-in_ok-push-in-Some
returns-in_ok-push-in-Some c =
    node_put (archived_node c.args.world.now.world) c.args.marks.now c.args.nodes.now c.push.new.self c.args.id c.in_ok-found.found c.in-Some.node
    (sym c.is_marked.ensures ∙ c.if-not-is_marked.false) c.in_ok-found.ensures c.in-Some.is c.in_ok-push-in-Some.ensures.ok

pub returns-in-None : goal.returns-in-None
returns-in-None c =
    node_none (archived_node c.args.world.now.world) c.args.marks.now c.args.nodes.now c.args.id c.in_ok-found.found
    (sym c.is_marked.ensures ∙ c.if-not-is_marked.false) c.in_ok-found.ensures c.in-None.is
