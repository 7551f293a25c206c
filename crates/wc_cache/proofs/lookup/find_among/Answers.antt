use Rattle.std.proofs.Common.{[], Option, get_or, ◌+◌, sym, ap, subst, ◌∙◌, arith}
use Rattle.std.specs.Prelude.{IsSome}
use Rattle.std.specs.Option.{option_copied}
use Rattle.wc_state.specs.declared.record.ProcessRecord.{ProcessRecord}
use Rattle.wc_keys.specs.declared.entries.Sealed.{Sealed}
use Rattle.wc_cache.proofs.Keyed.{is_there}
use Rattle.wc_cache.proofs.Lowest.{copied_there, process_there, first_found, none_found, none_yet}
use Rattle.wc_cache.proofs.lookup.find_among.Goals as goal

abbrev none : Sealed
none = record { digest = []; pid = 0 }

pub unwrap-process-requires : goal.unwrap-process-requires
unwrap-process-requires c =
    let w = c.args.world.now.world in
    let key = c.args.key.now in
    let part = c.args.seals.now in
    let exact = c.requires in
    copied_there c.record_of.result
    (subst (λ (o : Option ProcessRecord). IsSome o) (sym c.record_of.ensures)
    (process_there w (w.batches + 1) key part exact c.loop-seal.seal-index none c.loop-seal-test.true))

pub is_source-requires : goal.is_source-requires
is_source-requires c =
    let at = get_or c.args.seals.now c.loop-seal.seal-index none in
    is_there c.args.world.now.world at.pid c.unwrap-process.result.now (sym c.record_of.ensures ∙ ap option_copied c.unwrap-process.ensures)

pub returns-then-is : goal.returns-then-is
returns-then-is c =
    let w = c.args.world.now.world in
    let key = c.args.key.now in
    let part = c.args.seals.now in
    let exact = c.requires in
    first_found w (w.batches + 1) key part exact (c.reached_worlds_are_consistent.ensures w c.graph.ensures.reached) c.loop-seal.seal-index none c.unwrap-process.result.now c.loop-seal-test.true
    c.loop-seal.invariant (sym c.record_of.ensures ∙ ap option_copied c.unwrap-process.ensures) (c.in_ok-is.ensures.0 c.if-is.true)

pub loop-seal-preserved : goal.loop-seal-preserved
loop-seal-preserved c =
    let w = c.args.world.now.world in
    let key = c.args.key.now in
    let part = c.args.seals.now in
    let exact = c.requires in
    none_yet w (w.batches + 1) key part exact c.loop-seal.seal-index none c.unwrap-process.result.now c.loop-seal-test.true c.loop-seal.invariant
    (sym c.record_of.ensures ∙ ap option_copied c.unwrap-process.ensures) (λ s. let e = c.in_ok-is.ensures.1 s in absurd (cc (e, c.if-is.false)))

pub returns : goal.returns
returns c =
    let w = c.args.world.now.world in
    let key = c.args.key.now in
    let part = c.args.seals.now in
    let exact = c.requires in
    none_found w (w.batches + 1) key part exact (c.reached_worlds_are_consistent.ensures w c.graph.ensures.reached) c.loop-seal.seal-index (omega arith) c.loop-seal.invariant
