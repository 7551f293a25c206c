use Rattle.std.proofs.Common.{◌<◌, length, arith}
use Rattle.wc_graph.proofs.topology.first_ready.Goals as goal

pub returns : goal.returns
returns c = λ q.
    let i = c.loop-node.invariant q in
    let some = c.requires.some in
    let end = c.loop-node.auto in
    let out = c.loop-node-test.false in (
      λ h. let r = i.0 h in let lt : q < c.loop-node.node = r.1 in (r.0, omega arith, r.2),
      λ h. let lt : q < length c.args.waiting.now = h.1 in i.1 (h.0, omega arith, h.2),
    )
