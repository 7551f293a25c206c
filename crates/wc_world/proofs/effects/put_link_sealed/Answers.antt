use Rattle.std.proofs.Common.{sym, ◌∙◌}
use Rattle.wc_keys.specs.Order.{without}
use Rattle.wc_keys.proofs.Exact.{exact_same}
use Rattle.wc_world.specs.Keys.{digest_from}
use Rattle.wc_world.proofs.ChangedDigests.{with_link}
use Rattle.wc_world.proofs.effects.put_link_sealed.Goals as goal

pub seal-requires-clause-others : goal.seal-requires-clause-others
seal-requires-clause-others c =
    let old = c.args.graph.now in
    let new = c.push_link.new.self in
    let libraries = c.args.libraries.now in
    let records = c.args.records.now.0 in
    let pid = c.args.link.target in
    exact_same (without pid (digest_from old.nodes old.links libraries records)) (without pid (digest_from new.nodes new.links libraries records)) c.unseal.new.seals.0
    (λ n. with_link old.nodes old.links libraries records c.args.link n
    ∙ (λ i. without pid (digest_from (sym c.push_link.ensures.others.0 i) (sym c.push_link.ensures.added i) libraries records) n))
    c.unseal.ensures.entries
