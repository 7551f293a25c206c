use Rattle.std.proofs.Common.{ap, ◌∙◌, arith}
use Rattle.wc_cache.proofs.LookedAt.{is_there, none_more, none_at_all, lowest}
use Rattle.wc_cache.proofs.lookup.find_in_all.Goals as goal

pub is_source-requires : goal.is_source-requires
is_source-requires c =
    let w = c.args.world.now.world in
    let reached = c.graph.ensures.reached in
    is_there w c.args.key.now reached (c.reached_worlds_are_consistent.ensures w reached) c.as_slice-process-items.result.now
    (c.as_slice-process-items.ensures ∙ ap (λ p. p.0) c.records.ensures) c.loop-process.process-index _ c.process-item.result c.loop-process-test.true c.process-item.is

pub returns-then-is : goal.returns-then-is
returns-then-is c =
    let w = c.args.world.now.world in
    let reached = c.graph.ensures.reached in
    lowest w c.args.key.now reached (c.reached_worlds_are_consistent.ensures w reached) c.as_slice-process-items.result.now
    (c.as_slice-process-items.ensures ∙ ap (λ p. p.0) c.records.ensures) c.loop-process.process-index _ c.process-item.result c.loop-process-test.true c.process-item.is
    c.loop-process.invariant (c.in_ok-is.ensures.0 c.if-is.true)

pub loop-process-preserved : goal.loop-process-preserved
loop-process-preserved c =
    let w = c.args.world.now.world in
    let reached = c.graph.ensures.reached in
    none_more w c.args.key.now reached (c.reached_worlds_are_consistent.ensures w reached) c.as_slice-process-items.result.now
    (c.as_slice-process-items.ensures ∙ ap (λ p. p.0) c.records.ensures) c.loop-process.process-index _ c.process-item.result c.loop-process-test.true c.process-item.is
    c.loop-process.invariant (λ s. let e = c.in_ok-is.ensures.1 s in absurd (cc (e, c.if-is.false)))

pub returns : goal.returns
returns c =
    let w = c.args.world.now.world in
    let reached = c.graph.ensures.reached in
    none_at_all w c.args.key.now reached (c.reached_worlds_are_consistent.ensures w reached) c.as_slice-process-items.result.now
    (c.as_slice-process-items.ensures ∙ ap (λ p. p.0) c.records.ensures) c.loop-process.process-index (omega arith) c.loop-process.invariant
