use Rattle.std.proofs.Common.{List, sym, ap, ◌∙◌}
use Rattle.wc_state.specs.declared.record.ProcessRecord.{ProcessRecord}
use Rattle.wc_keys.specs.Order.{without}
use Rattle.wc_keys.proofs.Exact.{exact_same, without_none}
use Rattle.wc_world.specs.Keys.{digest_from}
use Rattle.wc_world.proofs.ChangedDigests.{with_set, live_has_none}
use Rattle.wc_world.proofs.effects.set_process_sealed.Goals as goal

pub seal-requires-clause-others : goal.seal-requires-clause-others
seal-requires-clause-others c =
    let graph = c.args.graph.now in
    let libraries = c.args.libraries.now in
    let old = c.args.records.now.0 in
    let new = c.set_process.new.records.0 in
    let pid = c.args.change.pid in
    let f = digest_from graph.nodes graph.links libraries old in
    exact_same f (without pid (digest_from graph.nodes graph.links libraries new)) c.args.seals.now.0
    (λ n. sym (without_none f pid (live_has_none graph.nodes graph.links libraries old pid c.requires.live) n)
    ∙ with_set graph.nodes graph.links libraries old pid c.args.batch c.args.change n
    ∙ ap (λ (rs : List ProcessRecord). without pid (digest_from graph.nodes graph.links libraries rs) n) (sym (ap (λ p. p.0) c.set_process.ensures)))
    c.requires.sealed
