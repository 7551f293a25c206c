use Rattle.std.proofs.Common.{take, get_or, ◌+◌}
use Rattle.wc_matches.specs.Joins.{OpenSteps}
use Rattle.wc_matches.specs.Found.{FromSome}
use Rattle.wc_matches.proofs.Finding.{finds_then, from_split, from_left, from_right}
use Rattle.wc_matches.proofs.search.spread_all.Goals as goal

pub loop-node-preserved : goal.loop-node-preserved
loop-node-preserved c =
    let l = c.loop-node in
    let i = l.node-index in
    let from = c.args.from.now in
    finds_then (FromSome (OpenSteps c.args.forward c.args.types.now c.args.barred.now c.args.graph.now.links) (take i from))
    (OpenSteps c.args.forward c.args.types.now c.args.barred.now c.args.graph.now.links (get_or from i 0))
    (FromSome (OpenSteps c.args.forward c.args.types.now c.args.barred.now c.args.graph.now.links) (take (i + 1) from))
    c.args.marks.now l.marks c.spread.new.marks c.args.found.now.items l.found.items c.spread.new.found.items l.invariant c.in_ok-spread.ensures
    (from_split (OpenSteps c.args.forward c.args.types.now c.args.barred.now c.args.graph.now.links) from i c.loop-node-test.true)
    (from_left (OpenSteps c.args.forward c.args.types.now c.args.barred.now c.args.graph.now.links) from i c.loop-node-test.true)
    (from_right (OpenSteps c.args.forward c.args.types.now c.args.barred.now c.args.graph.now.links) from i c.loop-node-test.true)
