use Rattle.std.proofs.Common.{Bool, true, Err, refl, ap, subst, ◌∙◌}
use Rattle.std.specs.Prelude.{IsTrue}
use Rattle.wc_ends.specs.Runner.Refusals.{is_live_after}
use Rattle.wc_ends.specs.Runner.declared.runs.RunEnd.{RunEnd}
use Rattle.wc_world.specs.Room.{Holding}
use Rattle.wc_world.specs.World.{World}
use Rattle.wc_drill.specs.Drilled.{Submitted}
use Rattle.wc_drill.proofs.Ran.{broken_counts, broken_durable, broken_refused, drilled_moments, drilled_tells, ended_done, ended_durable, running, stopped_refused, submitting}
use Rattle.wc_drill.proofs.drills.drilled.Goals as goal

pub submit_chains-requires-clause-live : goal.submit_chains-requires-clause-live
submit_chains-requires-clause-live g c = c.requires.fresh.live

pub run_all-requires : goal.run_all-requires
run_all-requires g c =
    let call = c.in-Ok.ensures.stepped.call in
    record {
      few = c.requires.few;
      table = c.requires.table;
      live = call.live;
      submitted = (c.args.seed, subst (λ (w : World). Submitted c.args.seed c.args.count w c.submit_chains.new.store.world.world) c.requires.fresh.empty_yet c.in-Ok.ensures.all);
      stands = λ told told_too. call.stands refl (subst (λ (b : Bool). IsTrue b) call.tells_one told) (subst (λ (b : Bool). IsTrue b) call.tells_two told_too);
    }

-- ---- the submissions broke off

pub returns-in-Err-clause-refused : goal.returns-in-Err-clause-refused
returns-in-Err-clause-refused g c =
    broken_refused g.D.Disk c.args.seed c.args.count c.args.store c.args.one.now c.args.two.now c.requires.fresh c.in-Err.error c.from.result c.from.ensures c.submit_chains.new.store c.submit_chains.new.one c.submit_chains.new.two c.in-Err.ensures.stepped c.in-Err.ensures.refused

pub returns-in-Err-clause-durable : goal.returns-in-Err-clause-durable
returns-in-Err-clause-durable g c =
    let whole = is_live_after {T = Unit {0}} (Err c.in-Err.error) in
    let step = submitting g.D.Disk c.args.seed c.args.count c.args.store c.args.one.now c.args.two.now c.requires.fresh whole c.submit_chains.new.store c.submit_chains.new.one c.submit_chains.new.two c.in-Err.ensures.stepped in
    broken_durable g.D.Disk c.args.seed c.args.count c.args.store c.args.one.now c.args.two.now c.requires.fresh (Unit {0}) c.in-Err.error c.from.result c.from.ensures c.submit_chains.new.store c.submit_chains.new.one c.submit_chains.new.two step

pub returns-in-Err-clause-any_moment : goal.returns-in-Err-clause-any_moment
returns-in-Err-clause-any_moment g c =
    let whole = is_live_after {T = Unit {0}} (Err c.in-Err.error) in
    let step = submitting g.D.Disk c.args.seed c.args.count c.args.store c.args.one.now c.args.two.now c.requires.fresh whole c.submit_chains.new.store c.submit_chains.new.one c.submit_chains.new.two c.in-Err.ensures.stepped in
    drilled_moments g.D.Disk c.args.seed c.args.count c.args.store c.args.one.now c.args.two.now c.requires.fresh whole c.submit_chains.new.store c.submit_chains.new.one c.submit_chains.new.two step

pub returns-in-Err-clause-tells : goal.returns-in-Err-clause-tells
returns-in-Err-clause-tells g c =
    let whole = is_live_after {T = Unit {0}} (Err c.in-Err.error) in
    let step = submitting g.D.Disk c.args.seed c.args.count c.args.store c.args.one.now c.args.two.now c.requires.fresh whole c.submit_chains.new.store c.submit_chains.new.one c.submit_chains.new.two c.in-Err.ensures.stepped in
    drilled_tells g.D.Disk c.args.seed c.args.count c.args.store c.args.one.now c.args.two.now c.requires.fresh whole c.submit_chains.new.store c.submit_chains.new.one c.submit_chains.new.two step

pub returns-in-Err-clause-cause : goal.returns-in-Err-clause-cause
returns-in-Err-clause-cause g c =
    let whole = is_live_after {T = Unit {0}} (Err c.in-Err.error) in
    let step = submitting g.D.Disk c.args.seed c.args.count c.args.store c.args.one.now c.args.two.now c.requires.fresh whole c.submit_chains.new.store c.submit_chains.new.one c.submit_chains.new.two c.in-Err.ensures.stepped in
    broken_counts g.D.Disk c.args.seed c.args.count c.args.store c.args.one.now c.args.two.now c.requires.fresh (Unit {0}) c.in-Err.error c.from.result c.from.ensures c.submit_chains.new.store c.submit_chains.new.one c.submit_chains.new.two step

-- ---- the run broke off

pub returns-clause-refused : goal.returns-clause-refused
returns-clause-refused g c =
    let e = c.in-Err-run_all.ensures in
    stopped_refused g.D.Disk c.args.seed c.args.count c.args.store c.args.one.now c.args.two.now c.requires.fresh c.submit_chains.new.store c.submit_chains.new.one c.submit_chains.new.two c.in-Ok.ensures.all c.in-Ok.ensures.stepped (is_live_after {T = RunEnd} (Err c.in-Err-run_all.error)) c.run_all.new.store c.run_all.new.one c.run_all.new.two e.stepped
    c.in-Err-run_all.error c.from-in-Err-run_all.result c.from-in-Err-run_all.ensures e.stepped.call.live e.early e.refused

pub returns-clause-durable : goal.returns-clause-durable
returns-clause-durable g c =
    let whole = is_live_after {T = RunEnd} (Err c.in-Err-run_all.error) in
    let step = running g.D.Disk c.args.seed c.args.count c.args.store c.args.one.now c.args.two.now c.requires.fresh whole c.submit_chains.new.store c.submit_chains.new.one c.submit_chains.new.two c.run_all.new.store c.run_all.new.one c.run_all.new.two c.in-Ok.ensures.all c.in-Ok.ensures.stepped c.in-Err-run_all.ensures.stepped in
    broken_durable g.D.Disk c.args.seed c.args.count c.args.store c.args.one.now c.args.two.now c.requires.fresh RunEnd c.in-Err-run_all.error c.from-in-Err-run_all.result c.from-in-Err-run_all.ensures c.run_all.new.store c.run_all.new.one c.run_all.new.two step

pub returns-clause-any_moment : goal.returns-clause-any_moment
returns-clause-any_moment g c =
    let whole = is_live_after {T = RunEnd} (Err c.in-Err-run_all.error) in
    let step = running g.D.Disk c.args.seed c.args.count c.args.store c.args.one.now c.args.two.now c.requires.fresh whole c.submit_chains.new.store c.submit_chains.new.one c.submit_chains.new.two c.run_all.new.store c.run_all.new.one c.run_all.new.two c.in-Ok.ensures.all c.in-Ok.ensures.stepped c.in-Err-run_all.ensures.stepped in
    drilled_moments g.D.Disk c.args.seed c.args.count c.args.store c.args.one.now c.args.two.now c.requires.fresh whole c.run_all.new.store c.run_all.new.one c.run_all.new.two step

pub returns-clause-tells : goal.returns-clause-tells
returns-clause-tells g c =
    let whole = is_live_after {T = RunEnd} (Err c.in-Err-run_all.error) in
    let step = running g.D.Disk c.args.seed c.args.count c.args.store c.args.one.now c.args.two.now c.requires.fresh whole c.submit_chains.new.store c.submit_chains.new.one c.submit_chains.new.two c.run_all.new.store c.run_all.new.one c.run_all.new.two c.in-Ok.ensures.all c.in-Ok.ensures.stepped c.in-Err-run_all.ensures.stepped in
    drilled_tells g.D.Disk c.args.seed c.args.count c.args.store c.args.one.now c.args.two.now c.requires.fresh whole c.run_all.new.store c.run_all.new.one c.run_all.new.two step

pub returns-clause-cause : goal.returns-clause-cause
returns-clause-cause g c =
    let whole = is_live_after {T = RunEnd} (Err c.in-Err-run_all.error) in
    let step = running g.D.Disk c.args.seed c.args.count c.args.store c.args.one.now c.args.two.now c.requires.fresh whole c.submit_chains.new.store c.submit_chains.new.one c.submit_chains.new.two c.run_all.new.store c.run_all.new.one c.run_all.new.two c.in-Ok.ensures.all c.in-Ok.ensures.stepped c.in-Err-run_all.ensures.stepped in
    broken_counts g.D.Disk c.args.seed c.args.count c.args.store c.args.one.now c.args.two.now c.requires.fresh RunEnd c.in-Err-run_all.error c.from-in-Err-run_all.result c.from-in-Err-run_all.ensures c.run_all.new.store c.run_all.new.one c.run_all.new.two step

-- ---- it ended every process

pub returns-in-Ok-run_all-clause-done : goal.returns-in-Ok-run_all-clause-done
returns-in-Ok-run_all-clause-done g c =
    let e = c.in-Ok-run_all.ensures in
    ended_done g.D.Disk c.args.seed c.args.count c.args.store c.args.one.now c.args.two.now c.requires.fresh c.submit_chains.new.store c.submit_chains.new.one c.submit_chains.new.two c.in-Ok.ensures.all c.in-Ok.ensures.stepped true c.run_all.new.store c.run_all.new.one c.run_all.new.two e.stepped
    e.stepped.call.live c.in-Ok-run_all.field-0 e.ends c.batches.result (c.batches.ensures ∙ ap (λ (h : Holding). h.world.batches) c.world.ensures)

pub returns-in-Ok-run_all-clause-durable : goal.returns-in-Ok-run_all-clause-durable
returns-in-Ok-run_all-clause-durable g c =
    let step = running g.D.Disk c.args.seed c.args.count c.args.store c.args.one.now c.args.two.now c.requires.fresh true c.submit_chains.new.store c.submit_chains.new.one c.submit_chains.new.two c.run_all.new.store c.run_all.new.one c.run_all.new.two c.in-Ok.ensures.all c.in-Ok.ensures.stepped c.in-Ok-run_all.ensures.stepped in
    λ begun. ended_durable g.D.Disk c.args.seed c.args.count c.args.store c.args.one.now c.args.two.now c.requires.fresh c.run_all.new.store c.run_all.new.one c.run_all.new.two step

pub returns-in-Ok-run_all-clause-any_moment : goal.returns-in-Ok-run_all-clause-any_moment
returns-in-Ok-run_all-clause-any_moment g c =
    let step = running g.D.Disk c.args.seed c.args.count c.args.store c.args.one.now c.args.two.now c.requires.fresh true c.submit_chains.new.store c.submit_chains.new.one c.submit_chains.new.two c.run_all.new.store c.run_all.new.one c.run_all.new.two c.in-Ok.ensures.all c.in-Ok.ensures.stepped c.in-Ok-run_all.ensures.stepped in
    drilled_moments g.D.Disk c.args.seed c.args.count c.args.store c.args.one.now c.args.two.now c.requires.fresh true c.run_all.new.store c.run_all.new.one c.run_all.new.two step

pub returns-in-Ok-run_all-clause-tells : goal.returns-in-Ok-run_all-clause-tells
returns-in-Ok-run_all-clause-tells g c =
    let step = running g.D.Disk c.args.seed c.args.count c.args.store c.args.one.now c.args.two.now c.requires.fresh true c.submit_chains.new.store c.submit_chains.new.one c.submit_chains.new.two c.run_all.new.store c.run_all.new.one c.run_all.new.two c.in-Ok.ensures.all c.in-Ok.ensures.stepped c.in-Ok-run_all.ensures.stepped in
    drilled_tells g.D.Disk c.args.seed c.args.count c.args.store c.args.one.now c.args.two.now c.requires.fresh true c.run_all.new.store c.run_all.new.one c.run_all.new.two step

pub returns-in-Ok-run_all-clause-cause : goal.returns-in-Ok-run_all-clause-cause
returns-in-Ok-run_all-clause-cause g c =
    let step = running g.D.Disk c.args.seed c.args.count c.args.store c.args.one.now c.args.two.now c.requires.fresh true c.submit_chains.new.store c.submit_chains.new.one c.submit_chains.new.two c.run_all.new.store c.run_all.new.one c.run_all.new.two c.in-Ok.ensures.all c.in-Ok.ensures.stepped c.in-Ok-run_all.ensures.stepped in
    step.call.counts
