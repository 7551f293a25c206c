use Rattle.std.proofs.Common.{◌≡◌, ℕ, List, length, ap, ◌∙◌, arith}
use Rattle.wc_graph.specs.declared.node.NodeKind.{NodeKind}
use Rattle.wc_graph.specs.declared.link.Link.{Link}
use Rattle.wc_world.specs.World.{Known}
use Rattle.wc_record.proofs.SnapshotLength.{records_counted, snapshot_length}
use Rattle.wc_record.proofs.snapshot.changes_of.Goals as goal

pub overflow_mul-count : goal.overflow_mul-count
overflow_mul-count c = omega (arith, (records_counted c.args.world.now.world _ _ _ c.requires c.len-4.ensures c.records.ensures).1)

pub overflow_add-count-3 : goal.overflow_add-count-3
overflow_add-count-3 c = omega (arith, (records_counted c.args.world.now.world _ _ _ c.requires c.len-4.ensures c.records.ensures).1)

pub overflow_add-count-4 : goal.overflow_add-count-4
overflow_add-count-4 c = omega (arith, (records_counted c.args.world.now.world _ _ _ c.requires c.len-4.ensures c.records.ensures).1)

pub returns-clause-value : goal.returns-clause-value
returns-clause-value c =
    let w = c.args.world.now.world in
    let libraries : c.len.result ≡ length w.libraries = c.len.ensures.value ∙ ap (λ (p : List Known × ℕ). length p.0) c.libraries.ensures in
    let nodes : c.len-2.result ≡ length w.nodes = c.len-2.ensures.value ∙ (ap (λ (p : List NodeKind × ℕ). length p.0) c.nodes.ensures.value ∙ ap length c.graph-graph.ensures.nodes.0) in
    let links : c.len-3.result ≡ length w.links = c.len-3.ensures.value ∙ (ap (λ (p : List Link × ℕ). length p.0) c.links.ensures.value ∙ ap length c.graph-graph.ensures.links.0) in
    let records = (records_counted w _ _ _ c.requires c.len-4.ensures c.records.ensures).0 in
    let all = snapshot_length w c.requires in
    omega (arith, records, all)
