use Rattle.std.proofs.Common.{◌≡◌, ◌<◌, length, ap, ◌∙◌, sym, subst, arith}
use Rattle.std.proofs.lemmas.Result.{IfOk-weaker}
use Rattle.wc_graph.specs.Near.{Near}
use Rattle.wc_graph.specs.Flood.{node_at}
use Rattle.wc_graph.specs.Cycle.{LinksBack}
use Rattle.wc_graph.proofs.Settling.{closed_from_is}
use Rattle.wc_graph.proofs.Reaching.{explored}
use Rattle.wc_graph.proofs.Restoring.{entry_is}
use Rattle.wc_graph.proofs.cycle.closed_walk.Goals as goal

pub returns-then-index-node : goal.returns-then-index-node
returns-then-index-node c =
    let backward = c.args.backward.now in
    let floods = c.in_ok-_colours.ensures in
    let trail = c.in_ok-_colours.trail.items in
    let is = c.deref.ensures.value in
    let at = c.loop-at.at in
    let at_in : at < length trail = omega (arith, c.in_ok-_colours.trail.ok.0, c.len-at-end.ensures, c.loop-at-test.true) in
    let here : c.index.result.now.node ≡ node_at trail at = ap (λ f. f.node) c.index.ensures ∙ entry_is trail at c.index.result.now at_in in
    let from : node_at c.deref.result.now at ≡ c.args.node = ap (λ t. node_at t at) is ∙ sym here ∙ c.if-index-node.true in
    let to : node_at c.deref.result.now 0 ≡ c.args.node = ap (λ t. node_at t 0) is ∙ floods.begins.1 in
    let links = subst (LinksBack backward) (sym is) (λ k pos lt. (floods.linked k pos lt).1) in
    IfOk-weaker c.way_back.result _ _ (λ ids h. closed_from_is (λ a b. Near backward b a) _ _ _ _ ids from to (h backward links)) c.way_back.ensures

pub unreachable-requires : goal.unreachable-requires
unreachable-requires c =
    let backward = c.args.backward.now in
    let floods = c.in_ok-_colours.ensures in
    let trail = c.in_ok-_colours.trail in
    let e = explored backward c.args.node (length backward) c.in_ok-_colours._colours.items trail.items floods c.args.node in
    let f = floods.found c.args.node (e.1 c.requires.on_cycle) in
    let f_in : f.0 < length trail.items = f.2 in
    c.loop-at.invariant f.0 f.1 (omega (arith, trail.ok.0, c.len-at-end.ensures, c.loop-at-test.false)) f.3
