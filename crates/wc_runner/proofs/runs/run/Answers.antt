use Rattle.std.proofs.Common.{◌≡◌, ◌<◌, ◌-◌, ℕ, true, false, Result, Err, subst, arith, rules}
use Rattle.wc_world.specs.Room.{Holding}
use Rattle.wc_machine.specs.Questions.{need}
use Rattle.wc_core.specs.Next.{ComesNext}
use Rattle.wc_core.specs.Order.{IsChosen}
use Rattle.wc_core.specs.Ready.{is_ready_at}
use Rattle.wc_core.specs.Standing.{StandsAs, is_any_live, is_resting}
use Rattle.wc_core.specs.declared.next.Next.TheVariants.{Turn, Rest}
use Rattle.wc_core.specs.declared.standing.Standing.TheVariants.{Going}
use Rattle.wc_runner.specs.Asked.{AsksOnce, IsAsked}
use Rattle.wc_runner.specs.declared.error.RunError.{RunError}
use Rattle.wc_runner.specs.declared.runs.RunEnd.TheVariants as end
use Rattle.wc_runner.specs.Outside.{in_run}
use Rattle.wc_runner.specs.Runs.{TakesAll}
use Rattle.wc_runner.specs.Trails.{RestsOnce, Says}
use Rattle.wc_runner.proofs.OnTrail.{begins, goes_on, rests_on, stands_there}
use Rattle.wc_runner.proofs.Ran.{Ran, ran_refused, ran_to, ran_unasked}
use Rattle.wc_runner.proofs.Taken.{ready_there, what_it_needs}
use Rattle.wc_runner.proofs.Trailed.{ended_not_spent, memory_alone, resting_not_spent}
use Rattle.wc_runner.proofs.runs.run.Goals as goal

pub trip-init : goal.trip-init
trip-init g c =
    begins g.D.Disk g.T.Transport g.P.Pacer c.args.limits.now c.args.seed c.args.turns c.args.store.now c.args.one.now c.args.two.now c.args.transport.now c.args.pacer.now
    g.met.D.Disk.only_now c.requires.live c.requires.stands c.of-order.result c.of-order.ensures

pub returns-in-AllEnded : goal.returns-in-AllEnded
returns-in-AllEnded g c =
    let r = ran_to g.D.Disk g.T.Transport g.P.Pacer c.args.limits.now c.args.seed c.args.turns c.args.store.now c.args.one.now c.args.two.now c.args.transport.now c.args.pacer.now
    c.trip.taken c.trip.order c.trip.store c.trip.one c.trip.two c.trip.transport c.trip.pacer c.trip.invariant end.AllEnded (λ is. absurd (ended_not_spent is))
    (λ all. subst (λ (h : Holding). is_any_live h.world ≡ false) c.world.ensures c.in-AllEnded.ensures) in
    record {
      stepped = r.stepped;
      went = r.went;
      takes = r.takes;
      ends = r.ends;
      refused = r.refused;
      directories = r.directories;
      processes = r.processes;
      marks = r.marks;
      codes = r.codes;
      asked = r.asked;
    }

pub returns-in-Resting : goal.returns-in-Resting
returns-in-Resting g c =
    let r = ran_to g.D.Disk g.T.Transport g.P.Pacer c.args.limits.now c.args.seed c.args.turns c.args.store.now c.args.one.now c.args.two.now c.args.transport.now c.args.pacer.now
    c.trip.taken c.trip.order c.trip.store c.trip.one c.trip.two c.trip.transport c.trip.pacer c.trip.invariant end.Resting (λ is. absurd (resting_not_spent is))
    (λ all. subst (λ (h : Holding). (is_any_live h.world ≡ true) × (is_resting h.world ≡ true)) c.world.ensures c.in-Resting.ensures) in
    record {
      stepped = r.stepped;
      went = r.went;
      takes = r.takes;
      ends = r.ends;
      refused = r.refused;
      directories = r.directories;
      processes = r.processes;
      marks = r.marks;
      codes = r.codes;
      asked = r.asked;
    }

pub returns-then-taken-turns : goal.returns-then-taken-turns
returns-then-taken-turns g c =
    let w = c.args.store.now.world.world in
    let s = c.trip.store in
    let o = in_run g.T.Transport g.P.Pacer c.args.limits.now c.args.transport.now c.trip.transport c.trip.pacer in
    let goes = subst (λ (h : Holding). StandsAs h.world Going) c.world.ensures c.in-Going.ensures in
    let r = ran_to g.D.Disk g.T.Transport g.P.Pacer c.args.limits.now c.args.seed c.args.turns c.args.store.now c.args.one.now c.args.two.now c.args.transport.now c.args.pacer.now
    c.trip.taken c.trip.order c.trip.store c.trip.one c.trip.two c.trip.transport c.trip.pacer c.trip.invariant end.Spent (λ is. c.if-taken-turns.true)
    (λ all. (goes.0, goes.1, subst (λ (n : ℕ). TakesAll o n w s.world.world (g.P.Pacer.rests c.args.pacer.now) (g.P.Pacer.rests c.trip.pacer)) c.if-taken-turns.true all)) in
    record {
      stepped = r.stepped;
      went = r.went;
      takes = r.takes;
      ends = r.ends;
      refused = r.refused;
      directories = r.directories;
      processes = r.processes;
      marks = r.marks;
      codes = r.codes;
      asked = r.asked;
    }

pub returns-in_err-next : goal.returns-in_err-next
returns-in_err-next g c =
    let less : c.trip.taken < c.args.turns = let few = c.trip.invariant.few in let not_all = c.if-taken-turns.false in omega arith in
    let r = memory_alone c.from_residual.result
    (λ x. Ran g.D.Disk g.T.Transport g.P.Pacer c.args.limits.now c.args.seed c.args.turns c.args.store.now c.args.one.now c.args.two.now c.args.transport.now c.args.pacer.now
    x c.trip.store c.trip.one c.trip.two c.trip.transport c.now-now.new.self) c.from_residual.ensures.1
    (ran_unasked g.D.Disk g.T.Transport g.P.Pacer c.args.limits.now c.args.seed c.args.turns c.args.store.now c.args.one.now c.args.two.now c.args.transport.now c.args.pacer.now
    c.trip.taken c.trip.order c.trip.store c.trip.one c.trip.two c.trip.transport c.trip.pacer c.trip.invariant less c.now-now.result c.now-now.new.self (record {
      said = c.now-now.ensures.said;
      last = c.now-now.ensures.last;
      told = c.now-now.ensures.told;
      rests = c.now-now.ensures.rests;
      slept = c.now-now.ensures.slept;
      steady = c.now-now.ensures.steady;
      keeps = c.now-now.ensures.keeps;
    })) in
    record {
      stepped = r.stepped;
      went = r.went;
      takes = r.takes;
      ends = r.ends;
      refused = r.refused;
      directories = r.directories;
      processes = r.processes;
      marks = r.marks;
      codes = r.codes;
      asked = r.asked;
    }

pub turn_one-requires : goal.turn_one-requires
turn_one-requires g c =
    let s = c.trip.store in
    let comes : ComesNext c.world-in-trip.result.now.world c.now-now.result (Turn c.in-Turn.pid)
    = subst (ComesNext c.world-in-trip.result.now.world c.now-now.result) c.in-Turn.is c.in_ok-next.ensures.comes in
    record {
      live = c.trip.invariant.stepped.call.live;
      stands = stands_there g.D.Disk g.T.Transport g.P.Pacer c.args.limits.now c.args.seed c.args.turns c.args.store.now c.args.one.now c.args.two.now c.args.transport.now c.args.pacer.now
          c.trip.taken c.trip.order c.trip.store c.trip.one c.trip.two c.trip.transport c.trip.pacer c.trip.invariant;
      limits = c.requires.limits;
      ready = subst (λ (h : Holding). is_ready_at h.world c.in-Turn.pid c.now-now.result ≡ true) c.world-in-trip.ensures comes;
    }

pub returns-in-Err : goal.returns-in-Err
returns-in-Err g c =
    let less : c.trip.taken < c.args.turns = let few = c.trip.invariant.few in let not_all = c.if-taken-turns.false in omega arith in
    let s = c.trip.store in
    let comes : ComesNext c.world-in-trip.result.now.world c.now-now.result (Turn c.in-Turn.pid)
    = subst (ComesNext c.world-in-trip.result.now.world c.now-now.result) c.in-Turn.is c.in_ok-next.ensures.comes in
    let ready : is_ready_at s.world.world c.in-Turn.pid c.now-now.result ≡ true
    = subst (λ (h : Holding). is_ready_at h.world c.in-Turn.pid c.now-now.result ≡ true) c.world-in-trip.ensures comes in
    let chosen : IsChosen s.world.world c.now-now.result c.trip.order c.next_turn.new.order (Turn c.in-Turn.pid)
    = subst (λ (h : Holding). IsChosen h.world c.now-now.result c.trip.order c.next_turn.new.order (Turn c.in-Turn.pid)) c.world-in-trip.ensures
    (subst (IsChosen c.world-in-trip.result.now.world c.now-now.result c.trip.order c.next_turn.new.order) c.in-Turn.is c.in_ok-next.ensures.chosen) in
    let there = ready_there s.world.world c.in-Turn.pid c.now-now.result ready in
    let e = c.in-Err.ensures in
    let failed : Result (Unit {0}) RunError = Err c.in-Err.error in
    let r = ran_refused g.D.Disk g.T.Transport g.P.Pacer c.args.limits.now c.args.seed c.args.turns c.args.store.now c.args.one.now c.args.two.now c.args.transport.now c.args.pacer.now
    c.trip.taken c.trip.order c.trip.store c.trip.one c.trip.two c.trip.transport c.trip.pacer c.trip.invariant less c.now-now.result c.now-now.new.self (record {
      said = c.now-now.ensures.said;
      last = c.now-now.ensures.last;
      told = c.now-now.ensures.told;
      rests = c.now-now.ensures.rests;
      slept = c.now-now.ensures.slept;
      steady = c.now-now.ensures.steady;
      keeps = c.now-now.ensures.keeps;
    })
    c.in-Turn.pid ready c.next_turn.new.order chosen c.turn_one.new.store c.turn_one.new.one c.turn_one.new.two c.turn_one.new.transport (need s.world.world there.0)
    (what_it_needs s.world.world c.in-Turn.pid (λ n. IsAsked g.T.Transport c.in-Turn.pid n c.trip.transport c.turn_one.new.transport) there.0 there.1 e.stays) e.stays
    c.in-Err.error (what_it_needs s.world.world c.in-Turn.pid (AsksOnce failed g.T.Transport.asked c.trip.transport c.turn_one.new.transport) there.0 there.1 e.asks) e.asks
    g.met.D.Disk.only_now g.met.D.Disk.counts_now e.same e.refused e.untouched e.stepped e.directories e.processes in
    record {
      stepped = r.stepped;
      went = r.went;
      takes = r.takes;
      ends = r.ends;
      refused = r.refused;
      directories = r.directories;
      processes = r.processes;
      marks = r.marks;
      codes = r.codes;
      asked = r.asked;
    }

pub trip-preserved : goal.trip-preserved
trip-preserved g c =
    let less : c.trip.taken < c.args.turns = let few = c.trip.invariant.few in let not_all = c.if-taken-turns.false in omega arith in
    let s = c.trip.store in
    let comes : ComesNext c.world-in-trip.result.now.world c.now-now.result (Turn c.in-Turn.pid)
    = subst (ComesNext c.world-in-trip.result.now.world c.now-now.result) c.in-Turn.is c.in_ok-next.ensures.comes in
    let ready : is_ready_at s.world.world c.in-Turn.pid c.now-now.result ≡ true
    = subst (λ (h : Holding). is_ready_at h.world c.in-Turn.pid c.now-now.result ≡ true) c.world-in-trip.ensures comes in
    let chosen : IsChosen s.world.world c.now-now.result c.trip.order c.next_turn.new.order (Turn c.in-Turn.pid)
    = subst (λ (h : Holding). IsChosen h.world c.now-now.result c.trip.order c.next_turn.new.order (Turn c.in-Turn.pid)) c.world-in-trip.ensures
    (subst (IsChosen c.world-in-trip.result.now.world c.now-now.result c.trip.order c.next_turn.new.order) c.in-Turn.is c.in_ok-next.ensures.chosen) in
    let there = ready_there s.world.world c.in-Turn.pid c.now-now.result ready in
    let e = c.in-Ok.ensures in
    goes_on g.D.Disk g.T.Transport g.P.Pacer c.args.limits.now c.args.seed c.args.turns c.args.store.now c.args.one.now c.args.two.now c.args.transport.now c.args.pacer.now
    c.trip.taken c.trip.order c.trip.store c.trip.one c.trip.two c.trip.transport c.trip.pacer c.trip.invariant less c.in-Turn.pid c.now-now.result c.now-now.new.self (record {
      said = c.now-now.ensures.said;
      last = c.now-now.ensures.last;
      told = c.now-now.ensures.told;
      rests = c.now-now.ensures.rests;
      slept = c.now-now.ensures.slept;
      steady = c.now-now.ensures.steady;
      keeps = c.now-now.ensures.keeps;
    })
    c.turn_one.new.store c.turn_one.new.one c.turn_one.new.two c.turn_one.new.transport (need s.world.world there.0)
    (what_it_needs s.world.world c.in-Turn.pid (λ n. IsAsked g.T.Transport c.in-Turn.pid n c.trip.transport c.turn_one.new.transport) there.0 there.1 e.stays) e.stays
    e.asks c.next_turn.new.order chosen e.stepped e.ok e.processes

pub trip-preserved-in-Rest : goal.trip-preserved-in-Rest
trip-preserved-in-Rest g c =
    let less : c.trip.taken < c.args.turns = let few = c.trip.invariant.few in let not_all = c.if-taken-turns.false in omega arith in
    let comes : ComesNext c.world-in-trip.result.now.world c.now-now.result (Rest c.in-Rest.until)
    = subst (ComesNext c.world-in-trip.result.now.world c.now-now.result) c.in-Rest.is c.in_ok-next.ensures.comes in
    let rests : ComesNext c.trip.store.world.world c.now-now.result (Rest c.in-Rest.until)
    = subst (λ (h : Holding). ComesNext h.world c.now-now.result (Rest c.in-Rest.until)) c.world-in-trip.ensures comes in
    let same : IsChosen c.world-in-trip.result.now.world c.now-now.result c.trip.order c.next_turn.new.order (Rest c.in-Rest.until)
    = subst (IsChosen c.world-in-trip.result.now.world c.now-now.result c.trip.order c.next_turn.new.order) c.in-Rest.is c.in_ok-next.ensures.chosen in
    let says : Says g.P.Pacer c.now-now.result c.trip.pacer c.now-now.new.self = (record {
      said = c.now-now.ensures.said;
      last = c.now-now.ensures.last;
      told = c.now-now.ensures.told;
      rests = c.now-now.ensures.rests;
      slept = c.now-now.ensures.slept;
      steady = c.now-now.ensures.steady;
      keeps = c.now-now.ensures.keeps;
    }) in
    let rested : RestsOnce g.P.Pacer (c.in-Rest.until - c.now-now.result) c.now-now.new.self c.rest.new.self
    = record { rests = c.rest.ensures.rests; last = c.rest.ensures.last; told = c.rest.ensures.told; slept = c.rest.ensures.slept; steady = c.rest.ensures.steady; keeps = c.rest.ensures.keeps } in
    rests_on g.D.Disk g.T.Transport g.P.Pacer c.args.limits.now c.args.seed c.args.turns c.args.store.now c.args.one.now c.args.two.now c.args.transport.now c.args.pacer.now
    c.trip.taken c.trip.order c.trip.store c.trip.one c.trip.two c.trip.transport c.trip.pacer c.trip.invariant less c.next_turn.new.order same c.rest.new.self
    (record { now = c.now-now.result; between = c.now-now.new.self; says = says; none = rests.0; until = c.in-Rest.until; later = rests.1; small = search rules; least = rests.2; rests = rested })
    (λ moment said. c.rest.ensures.keeps moment (c.now-now.ensures.keeps moment said))
