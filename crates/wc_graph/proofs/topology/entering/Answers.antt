use Rattle.std.proofs.Common.{arith}
use Rattle.wc_graph.proofs.Counting.{entered-le}
use Rattle.wc_graph.proofs.topology.entering.Goals as goal

pub overflow_add-index_mut : goal.overflow_add-index_mut
overflow_add-index_mut c =
    let l = c.loop-link in
    let le = entered-le l.waiting.items c.args.links.now c.args.greatest l.link-index c.link-item.result c.index_mut.result.now
    l.invariant.size c.requires.within c.loop-link-test.true c.link-item.is c.index_mut.ensures.value l.invariant.counts in
    omega arith
