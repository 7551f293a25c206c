use Rattle.std.proofs.Common.{◌<◌, ◌∷◌, [], length, ap, arith, length-append}
use Rattle.wc_world.proofs.Ascents.{ascend_below}
use Rattle.wc_world.proofs.effects.put_process.Goals as goal

pub push-requires-clause-above : goal.push-requires-clause-above
push-requires-clause-above c =
    let old = c.args.graph.now.nodes in
    let lt : length old < c.len-number.result
    = omega (
      arith,
      c.len-number.ensures.value,
      ap (λ p. length p.0) c.nodes.ensures.value,
      ap length c.put_node.ensures.nodes,
      length-append old (c.node_of_kind.result ∷ []),
    ) in
    ascend_below 0 (length old) c.len-number.result c.args.records.now.0 lt c.requires.ascending
