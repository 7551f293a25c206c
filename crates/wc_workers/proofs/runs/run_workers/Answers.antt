use Rattle.std.proofs.Common.{◌≡◌, ◌<◌, ◌-◌, ℕ, true, false, Ok, Err, refl, ap, subst, ◌∙◌, arith, rules}
use Rattle.wc_world.specs.Accepted.{IsReached}
use Rattle.wc_world.specs.Room.{Holding}
use Rattle.wc_pool.specs.Pools.{workers_of}
use Rattle.wc_runner.specs.Core.Standing.{StandsAs, is_any_live, is_resting}
use Rattle.wc_runner.specs.Core.declared.standing.Standing.TheVariants.{Going}
use Rattle.wc_runner.specs.Trails.{RestsOnce, Says}
use Rattle.wc_runner.specs.declared.error.RunError.{RunError}
use Rattle.wc_runner.specs.declared.runs.RunEnd.TheVariants as end
use Rattle.wc_store.specs.Stepped.{Stepped}
use Rattle.wc_runner.specs.Refusals.{is_live_after}
use Rattle.wc_workers.specs.Orders.{IsAfterStep, next_worker, worker_of}
use Rattle.wc_workers.specs.Steps.{AsksInStep, IsOrHeldTurn, RefusesHeld, StepOf}
use Rattle.wc_workers.specs.Works.{IsBusy, IsRestOf, RestsUntil}
use Rattle.wc_workers.specs.declared.steps.Done.{Done}
use Rattle.wc_workers.proofs.OnWork.{asks_fail, begins, goes_on, rests_on}
use Rattle.wc_workers.proofs.Ordered.{next_is}
use Rattle.wc_workers.proofs.RanWork.{Ran, ended_not_spent, memory_alone, ran_refused, ran_to, ran_unasked, resting_not_spent}
use Rattle.wc_workers.proofs.runs.run_workers.Goals as goal

pub work-init : goal.work-init
work-init g c =
    begins g.D.Disk g.T.Transport g.P.Pacer c.args.limits.now (workers_of c.args.pool.now) c.args.seed c.args.turns c.args.store.now c.args.one.now c.args.two.now c.args.transport.now c.args.pacer.now
    c.args.pool.now g.met.D.Disk.only_now c.requires.live c.requires.stands c.of-order.result (c.of-order.ensures (workers_of c.args.pool.now) (let some = c.requires.some in omega arith))
    c.requires.fits refl

pub returns-in-AllEnded : goal.returns-in-AllEnded
returns-in-AllEnded g c =
    let reached : IsReached c.args.store.now.world.world = subst (λ (h : Holding). IsReached h.world) c.world.ensures c.graph-graph.ensures.reached in
    let r = ran_to g.D.Disk g.T.Transport g.P.Pacer c.args.limits.now c.turns_leave_others.ensures (workers_of c.args.pool.now) c.args.seed c.args.turns c.args.store.now c.args.one.now c.args.two.now c.args.transport.now c.args.pacer.now
    c.args.pool.now reached c.requires.fits c.work.taken c.work.order c.work.store c.work.one c.work.two c.work.transport c.work.pacer c.work.pool c.work.invariant
    end.AllEnded (λ is. absurd (ended_not_spent is)) (subst (λ (h : Holding). is_any_live h.world ≡ false) c.world-in-work.ensures c.in-AllEnded.ensures) in
    record {
      stepped = r.stepped;
      went = r.went;
      fits = r.fits;
      ends = r.ends;
      takes = r.takes;
      fewer = r.fewer;
      refused = r.refused;
      marks = r.marks;
      codes = r.codes;
      directories = r.directories;
      processes = r.processes;
      asked = r.asked;
    }

pub returns-in-Resting : goal.returns-in-Resting
returns-in-Resting g c =
    let reached : IsReached c.args.store.now.world.world = subst (λ (h : Holding). IsReached h.world) c.world.ensures c.graph-graph.ensures.reached in
    let r = ran_to g.D.Disk g.T.Transport g.P.Pacer c.args.limits.now c.turns_leave_others.ensures (workers_of c.args.pool.now) c.args.seed c.args.turns c.args.store.now c.args.one.now c.args.two.now c.args.transport.now c.args.pacer.now
    c.args.pool.now reached c.requires.fits c.work.taken c.work.order c.work.store c.work.one c.work.two c.work.transport c.work.pacer c.work.pool c.work.invariant
    end.Resting (λ is. absurd (resting_not_spent is)) (subst (λ (h : Holding). (is_any_live h.world ≡ true) × (is_resting h.world ≡ true)) c.world-in-work.ensures c.in-Resting.ensures) in
    record {
      stepped = r.stepped;
      went = r.went;
      fits = r.fits;
      ends = r.ends;
      takes = r.takes;
      fewer = r.fewer;
      refused = r.refused;
      marks = r.marks;
      codes = r.codes;
      directories = r.directories;
      processes = r.processes;
      asked = r.asked;
    }

pub returns-then-taken-turns : goal.returns-then-taken-turns
returns-then-taken-turns g c =
    let reached : IsReached c.args.store.now.world.world = subst (λ (h : Holding). IsReached h.world) c.world.ensures c.graph-graph.ensures.reached in
    let going = subst (λ (h : Holding). StandsAs h.world Going) c.world-in-work.ensures c.in-Going.ensures in
    let r = ran_to g.D.Disk g.T.Transport g.P.Pacer c.args.limits.now c.turns_leave_others.ensures (workers_of c.args.pool.now) c.args.seed c.args.turns c.args.store.now c.args.one.now c.args.two.now c.args.transport.now c.args.pacer.now
    c.args.pool.now reached c.requires.fits c.work.taken c.work.order c.work.store c.work.one c.work.two c.work.transport c.work.pacer c.work.pool c.work.invariant
    end.Spent (λ is. c.if-taken-turns.true) (going.0, going.1) in
    record {
      stepped = r.stepped;
      went = r.went;
      fits = r.fits;
      ends = r.ends;
      takes = r.takes;
      fewer = r.fewer;
      refused = r.refused;
      marks = r.marks;
      codes = r.codes;
      directories = r.directories;
      processes = r.processes;
      asked = r.asked;
    }

pub returns-in_err-rest : goal.returns-in_err-rest
returns-in_err-rest g c =
    let less : c.work.taken < c.args.turns = let few = c.work.invariant.few in let not_all = c.if-taken-turns.false in omega arith in
    let reached : IsReached c.args.store.now.world.world = subst (λ (h : Holding). IsReached h.world) c.world.ensures c.graph-graph.ensures.reached in
    let r = memory_alone c.from_residual.result
    (λ x. Ran g.D.Disk g.T.Transport g.P.Pacer c.args.limits.now (workers_of c.args.pool.now) c.args.seed c.args.turns c.args.store.now c.args.one.now c.args.two.now c.args.transport.now c.args.pacer.now
    c.args.pool.now x c.work.store c.work.one c.work.two c.work.transport c.now-now.new.self c.work.pool) c.from_residual.ensures.1
    (ran_unasked g.D.Disk g.T.Transport g.P.Pacer c.args.limits.now c.turns_leave_others.ensures (workers_of c.args.pool.now) c.args.seed c.args.turns c.args.store.now c.args.one.now c.args.two.now c.args.transport.now c.args.pacer.now
    c.args.pool.now reached c.requires.fits c.work.taken c.work.order c.work.store c.work.one c.work.two c.work.transport c.work.pacer c.work.pool c.work.invariant
    less c.now-now.result c.now-now.new.self (record {
      said = c.now-now.ensures.said;
      last = c.now-now.ensures.last;
      told = c.now-now.ensures.told;
      rests = c.now-now.ensures.rests;
      slept = c.now-now.ensures.slept;
      steady = c.now-now.ensures.steady;
      keeps = c.now-now.ensures.keeps;
    })) in
    record {
      stepped = r.stepped;
      went = r.went;
      fits = r.fits;
      ends = r.ends;
      takes = r.takes;
      fewer = r.fewer;
      refused = r.refused;
      marks = r.marks;
      codes = r.codes;
      directories = r.directories;
      processes = r.processes;
      asked = r.asked;
    }

pub work-preserved-in-Some : goal.work-preserved-in-Some
work-preserved-in-Some g c =
    let less : c.work.taken < c.args.turns = let few = c.work.invariant.few in let not_all = c.if-taken-turns.false in omega arith in
    let s = c.work.store in
    let rests : RestsUntil c.work.pool s.world.world c.now-now.result c.in-Some.until
    = subst (λ (h : Holding). RestsUntil c.work.pool h.world c.now-now.result c.in-Some.until) c.world-in-work-2.ensures
    (subst (IsRestOf c.work.pool c.world-in-work-2.result.now.world c.now-now.result) c.in-Some.is c.in_ok-rest.ensures) in
    let says : Says g.P.Pacer c.now-now.result c.work.pacer c.now-now.new.self = (record {
      said = c.now-now.ensures.said;
      last = c.now-now.ensures.last;
      told = c.now-now.ensures.told;
      rests = c.now-now.ensures.rests;
      slept = c.now-now.ensures.slept;
      steady = c.now-now.ensures.steady;
      keeps = c.now-now.ensures.keeps;
    }) in
    let rested : RestsOnce g.P.Pacer (c.in-Some.until - c.now-now.result) c.now-now.new.self c.rest.new.self
    = record { rests = c.rest.ensures.rests; last = c.rest.ensures.last; told = c.rest.ensures.told; slept = c.rest.ensures.slept; steady = c.rest.ensures.steady; keeps = c.rest.ensures.keeps } in
    rests_on g.D.Disk g.T.Transport g.P.Pacer c.args.limits.now (workers_of c.args.pool.now) c.args.seed c.args.turns c.args.store.now c.args.one.now c.args.two.now c.args.transport.now c.args.pacer.now c.args.pool.now
    c.work.taken c.work.order c.work.store c.work.one c.work.two c.work.transport c.work.pacer c.work.pool c.work.invariant
    less rests.0 c.rest.new.self
    (record { now = c.now-now.result; between = c.now-now.new.self; says = says; none = rests.1; until = c.in-Some.until; later = rests.2; small = search rules; least = rests.3; rests = rested })
    (λ moment said. c.rest.ensures.keeps moment (c.now-now.ensures.keeps moment said))

pub work-preserved : goal.work-preserved
work-preserved g c =
    let less : c.work.taken < c.args.turns = let few = c.work.invariant.few in let not_all = c.if-taken-turns.false in omega arith in
    let W = workers_of c.args.pool.now in
    let steps = c.work.invariant.goes.steps in
    let same : c.workers-workers.result ≡ W = c.workers-workers.ensures in
    let is : c.next-worker.result ≡ worker_of W c.args.seed steps
    = c.next-worker.ensures.next ∙ ap (λ (n : ℕ). next_worker n c.work.order) same ∙ next_is W c.args.seed steps c.work.order c.work.invariant.stands in
    let s = c.work.store in
    let v = c.step.new.store in
    let e = c.in-Ok.ensures in
    let now = c.now-now.result in
    let after : IsAfterStep W c.work.order c.next-worker.new.self = subst (λ (n : ℕ). IsAfterStep n c.work.order c.next-worker.new.self) same c.next-worker.ensures.after in
    let busy : IsBusy c.work.pool s.world.world now = subst (λ (h : Holding). IsBusy c.work.pool h.world now) c.world-in-work-2.ensures
    (subst (IsRestOf c.work.pool c.world-in-work-2.result.now.world now) c.in-None.is c.in_ok-rest.ensures) in
    goes_on g.D.Disk g.T.Transport g.P.Pacer c.args.limits.now (workers_of c.args.pool.now) c.args.seed c.args.turns c.args.store.now c.args.one.now c.args.two.now c.args.transport.now c.args.pacer.now c.args.pool.now
    c.work.taken c.work.order c.work.store c.work.one c.work.two c.work.transport c.work.pacer c.work.pool c.work.invariant
    less now c.now-now.new.self (record {
      said = c.now-now.ensures.said;
      last = c.now-now.ensures.last;
      told = c.now-now.ensures.told;
      rests = c.now-now.ensures.rests;
      slept = c.now-now.ensures.slept;
      steady = c.now-now.ensures.steady;
      keeps = c.now-now.ensures.keeps;
    })
    v c.step.new.one c.step.new.two c.step.new.transport
    (asks_fail {A = Done} g.T.Transport c.next-worker.result now c.work.pool s.world.world (Ok c.in-Ok.field-0) c.work.transport c.step.new.transport e.asks)
    busy c.next-worker.new.self after c.in-Ok.field-0 c.step.new.pool
    (subst (λ (n : ℕ). StepOf g.T.Transport c.args.limits.now n now c.work.transport c.step.new.transport c.work.pool c.step.new.pool s.world.world v.world.world c.in-Ok.field-0) is e.done)
    e.fits
    (subst (λ (n : ℕ). Stepped g.D.Disk (IsOrHeldTurn c.args.limits.now n now c.work.pool s.world.world s.journal) true s c.work.one c.work.two v c.step.new.one c.step.new.two) is e.stepped)
    e.processes

pub returns-in-Err : goal.returns-in-Err
returns-in-Err g c =
    let less : c.work.taken < c.args.turns = let few = c.work.invariant.few in let not_all = c.if-taken-turns.false in omega arith in
    let reached : IsReached c.args.store.now.world.world = subst (λ (h : Holding). IsReached h.world) c.world.ensures c.graph-graph.ensures.reached in
    let W = workers_of c.args.pool.now in
    let steps = c.work.invariant.goes.steps in
    let same : c.workers-workers.result ≡ W = c.workers-workers.ensures in
    let is : c.next-worker.result ≡ worker_of W c.args.seed steps
    = c.next-worker.ensures.next ∙ ap (λ (n : ℕ). next_worker n c.work.order) same ∙ next_is W c.args.seed steps c.work.order c.work.invariant.stands in
    let s = c.work.store in
    let v = c.step.new.store in
    let e = c.in-Err.ensures in
    let x : RunError = c.in-Err.error in
    let now = c.now-now.result in
    let r = ran_refused g.D.Disk g.T.Transport g.P.Pacer c.args.limits.now c.turns_leave_others.ensures (workers_of c.args.pool.now) c.args.seed c.args.turns c.args.store.now c.args.one.now c.args.two.now c.args.transport.now c.args.pacer.now
    c.args.pool.now reached c.requires.fits c.work.taken c.work.order c.work.store c.work.one c.work.two c.work.transport c.work.pacer c.work.pool c.work.invariant
    less now c.now-now.new.self (record {
      said = c.now-now.ensures.said;
      last = c.now-now.ensures.last;
      told = c.now-now.ensures.told;
      rests = c.now-now.ensures.rests;
      slept = c.now-now.ensures.slept;
      steady = c.now-now.ensures.steady;
      keeps = c.now-now.ensures.keeps;
    })
    v c.step.new.one c.step.new.two c.step.new.transport c.step.new.pool x
    (subst (λ (n : ℕ). AsksInStep {A = Done} g.T.Transport n now c.work.pool s.world.world (Err x) c.work.transport c.step.new.transport) is e.asks)
    e.same e.stepped.comes.version
    (subst (λ (n : ℕ). RefusesHeld c.args.limits.now n now c.work.pool s.journal s.world.world x) is e.refused)
    g.met.D.Disk.counts_now e.kept e.fits
    (subst (λ (n : ℕ). Stepped g.D.Disk (IsOrHeldTurn c.args.limits.now n now c.work.pool s.world.world s.journal) (is_live_after {T = Done} (Err x)) s c.work.one c.work.two v c.step.new.one c.step.new.two)
    is e.stepped)
    e.directories e.processes in
    record {
      stepped = r.stepped;
      went = r.went;
      fits = r.fits;
      ends = r.ends;
      takes = r.takes;
      fewer = r.fewer;
      refused = r.refused;
      marks = r.marks;
      codes = r.codes;
      directories = r.directories;
      processes = r.processes;
      asked = r.asked;
    }
