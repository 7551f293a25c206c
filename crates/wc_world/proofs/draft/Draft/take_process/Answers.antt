use Rattle.std.proofs.Common.{◌<◌, ◌+◌, length, List, ap, arith, subst, sym}
use Rattle.std.specs.Prelude.{All}
use Rattle.wc_state.specs.declared.record.ProcessRecord.{ProcessRecord}
use Rattle.wc_world.proofs.Ascents.{ascend_below}
use Rattle.wc_world.proofs.draft.Draft.take_process.Goals as goal

pub push-requires-2-clause-above : goal.push-requires-2-clause-above
push-requires-2-clause-above c =
    let d = c.args.self.now in
    let number = c.len.result + 1 in
    let lt : length d.graph.nodes < number = omega (arith, c.len.ensures.value, ap (λ p. length p.0) c.nodes.ensures.value) in
    subst (λ (rs : List ProcessRecord). All (λ (r : ProcessRecord). r.node < number) rs) (sym c.reserve.ensures.same)
    (ascend_below 0 (length d.graph.nodes) number d.records.0 lt c.requires)
