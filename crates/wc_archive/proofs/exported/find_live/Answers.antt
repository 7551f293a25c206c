use Rattle.std.proofs.Common.{sym, ap, ◌∙◌, arith}
use Rattle.wc_archive.proofs.Exporting.{live_is, live_on, none_live}
use Rattle.wc_archive.proofs.exported.find_live.Goals as goal

pub returns-then-is_live : goal.returns-then-is_live
returns-then-is_live c =
    let w = c.args.world.now.world in
    live_is c.args.below.now c.as_slice-process-items.result.now c.loop-process.process-index _ c.process-item.result c.loop-process-test.true c.process-item.is c.loop-process.invariant
    (sym c.is_live.ensures ∙ c.if-is_live.true) w (c.reached_worlds_are_consistent.ensures w c.graph.ensures.reached)
    (c.as_slice-process-items.ensures ∙ ap (λ p. p.0) c.records.ensures)

pub loop-process-preserved : goal.loop-process-preserved
loop-process-preserved c =
    live_on c.args.below.now c.as_slice-process-items.result.now c.loop-process.process-index _ c.process-item.result c.loop-process-test.true c.process-item.is c.loop-process.invariant
    (sym c.is_live.ensures ∙ c.if-is_live.false)

pub returns : goal.returns
returns c =
    let w = c.args.world.now.world in
    none_live c.args.below.now c.as_slice-process-items.result.now c.loop-process.process-index (omega arith) c.loop-process.invariant w
    (c.as_slice-process-items.ensures ∙ ap (λ p. p.0) c.records.ensures)
