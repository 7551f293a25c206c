use Rattle.std.proofs.Common.{ℕ, List, length, ap, arith}
use Rattle.wc_graph.specs.declared.link.Link.{Link}
use Rattle.wc_keys.specs.Ports.{plain_inputs}
use Rattle.wc_keys.proofs.Ports.{plain_few}
use Rattle.wc_keys.proofs.TextDigests.{parts_digested}
use Rattle.wc_keys.proofs.digests.key_digest.Goals as goal

pub put_count-requires : goal.put_count-requires
put_count-requires c =
    let graph = c.args.graph.now in
    omega (arith, plain_few graph.nodes c.args.pid graph.links, c.count_inputs.ensures, c.len-few.ensures.value, c.len-few.ensures.bound, ap (λ (p : List Link × ℕ). length p.0) c.links.ensures.value)

pub returns : goal.returns
returns c =
    let graph = c.args.graph.now in
    parts_digested (plain_inputs graph.nodes c.args.pid graph.links) c.count_inputs.result _ _ _ _ c.count_inputs.ensures c.put_count.ensures c.put_inputs.ensures c.finish.ensures
