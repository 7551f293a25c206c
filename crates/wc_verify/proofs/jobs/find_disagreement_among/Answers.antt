use Rattle.std.proofs.Common.{false, get_or, take, sym, ap, subst, ◌∙◌}
use Rattle.std.proofs.lemmas.List.{take_all}
use Rattle.wc_verify.specs.Faults.{HasResultAmong, IsLeastAmong}
use Rattle.wc_verify.specs.Noted.{HaveNoted}
use Rattle.wc_verify.proofs.Wrong.{found_there, lower_before}
use Rattle.wc_verify.proofs.Disagreeing.{least_among, none_noted, taken_on}
use Rattle.wc_verify.proofs.jobs.find_disagreement_among.Goals as goal

pub note_chosen-requires-clause-found : goal.note_chosen-requires-clause-found
note_chosen-requires-clause-found c =
    let w = c.args.world.now.world in
    found_there w (c.reached_worlds_are_consistent.ensures w c.graph.ensures.reached) c.as_slice-process-items.result.now
    (c.as_slice-process-items.ensures ∙ ap (λ p. p.0) c.records.ensures) c.loop-process.process-index _ c.process-item.result c.loop-process-test.true c.process-item.is

pub loop-process-init : goal.loop-process-init
loop-process-init c = none_noted (HasResultAmong c.args.world.now.world (λ pid. get_or c.args.chosen.now pid false)) c.args.world.now.world c.«new-firsts».result c.«new-firsts».ensures

pub loop-process-preserved : goal.loop-process-preserved
loop-process-preserved c =
    let w = c.args.world.now.world in
    let items = c.as_slice-process-items.result.now in
    let i = c.loop-process.process-index in
    let process = c.process-item.result in
    let lower = lower_before w (c.reached_worlds_are_consistent.ensures w c.graph.ensures.reached) items (c.as_slice-process-items.ensures ∙ ap (λ p. p.0) c.records.ensures) i
    _ process c.loop-process-test.true c.process-item.is in
    taken_on (HasResultAmong w (λ pid. get_or c.args.chosen.now pid false)) w items i _ process c.note_chosen.new.firsts c.loop-process-test.true c.process-item.is (c.in_ok-note_chosen.ensures (take i items) lower c.loop-process.invariant)

pub returns : goal.returns
returns c =
    let w = c.args.world.now.world in
    let items = c.as_slice-process-items.result.now in
    let e = c.as_slice-process-items.ensures ∙ ap (λ p. p.0) c.records.ensures in
    let firsts = c.loop-process.firsts in
    subst (IsLeastAmong w (λ pid. get_or c.args.chosen.now pid false)) (sym c.least.ensures)
    (least_among w (c.reached_worlds_are_consistent.ensures w c.graph.ensures.reached) (λ pid. get_or c.args.chosen.now pid false) firsts
    (subst (λ rs. HaveNoted (HasResultAmong w (λ pid. get_or c.args.chosen.now pid false)) w rs firsts) (take_all c.loop-process.process-index items c.loop-process-test.false ∙ e) c.loop-process.invariant))
