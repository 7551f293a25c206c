use Rattle.std.proofs.Common.{arith}
use Rattle.wc_query.proofs.Successive.{place_on, joined_two}
use Rattle.wc_query.proofs.reading.joins_of.Goals as goal

pub loop-left-preserved : goal.loop-left-preserved
loop-left-preserved c = record {
  place = place_on _ c.loop-left.at _ c.loop-left.left.now c.in-len2-up.len_at_least c.loop-left.invariant.place (omega arith);
  joins = joined_two _ c.loop-left.joins _ c.loop-left.at c.loop-left.left.now c.link-item.result c.node-item.result c.in_ok-link.link c.in_ok-node.node _
      c.in-len2-up.len_at_least c.link-item.is c.node-item.is (omega arith) c.loop-left.invariant.joins c.in_ok-link.ensures c.in_ok-node.ensures c.in_ok-push.ensures.ok;
}
