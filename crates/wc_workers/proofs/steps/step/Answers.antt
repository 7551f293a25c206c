use Rattle.std.proofs.Common.{◌≡◌, ◌<◌, inl, refl, sym, subst, Err}
use Rattle.std.specs.Prelude.{IfErr}
use Rattle.wc_world.specs.Room.{Holding}
use Rattle.wc_store.specs.Stepped.{InGeneration, Stepped, of_world}
use Rattle.wc_store.proofs.Stepping.{not_stepped, stands_leaves, weaker_leaves}
use Rattle.wc_pool.specs.Pools.{IsSamePool, workers_of}
use Rattle.wc_pool.specs.declared.pool.Pool.{Pool}
use Rattle.wc_runner.specs.Asked.{AreOfProcesses}
use Rattle.wc_runner.specs.Refusals.{is_live_after}
use Rattle.wc_runner.specs.declared.error.RunError.{RunError}
use Rattle.wc_runner.proofs.Answered.{ok_map}
use Rattle.wc_workers.specs.Steps.{AsksInStep, CommitsTurn, Holds, IsOrHeldTurn, RefusesHeld, StepOf, StepOrHolds}
use Rattle.wc_workers.specs.declared.steps.Done.{Done}
use Rattle.wc_workers.proofs.Directories.{asks_placed, held_placed}
use Rattle.wc_workers.proofs.Held.{on_err, same_pool}
use Rattle.wc_workers.proofs.steps.step.Goals as goal

-- ---- a step that doesn't commit

pub returns-in-Ok-Some-clause-done : goal.returns-in-Ok-Some-clause-done
returns-in-Ok-Some-clause-done g c =
    subst (λ (h : Holding). StepOf g.T.Transport c.args.limits.now c.args.worker c.args.now c.args.transport.now c.without_turn.new.transport c.args.pool.now c.without_turn.new.pool h.world h.world c.in-Ok-Some.done)
    c.world.ensures
    (subst (StepOrHolds g.T.Transport c.args.limits.now c.args.worker c.args.now c.args.transport.now c.without_turn.new.transport c.args.pool.now c.without_turn.new.pool c.world.result.now.world)
    c.in-Ok-Some.field-0-is (c.in-Ok-Some.ensures.done c.args.limits.now))

pub returns-in-Ok-Some-clause-stepped : goal.returns-in-Ok-Some-clause-stepped
returns-in-Ok-Some-clause-stepped g c =
    let s = c.args.store.now in
    not_stepped g.D.Disk (IsOrHeldTurn c.args.limits.now c.args.worker c.args.now c.args.pool.now s.world.world s.journal) s c.args.one.now c.args.two.now
    g.met.D.Disk.only_now c.requires.live c.requires.stands (inl (refl, refl))

pub returns-in-Err-clause-stepped : goal.returns-in-Err-clause-stepped
returns-in-Err-clause-stepped g c =
    let s = c.args.store.now in
    let P = IsOrHeldTurn c.args.limits.now c.args.worker c.args.now c.args.pool.now s.world.world s.journal in
    subst (λ (e : RunError). Stepped g.D.Disk P (is_live_after {T = Done} (Err e)) s c.args.one.now c.args.two.now s c.args.one.now c.args.two.now) (sym c.in-Err.ensures.memory)
    (not_stepped g.D.Disk P s c.args.one.now c.args.two.now g.met.D.Disk.only_now c.requires.live c.requires.stands (inl (refl, refl)))

-- ---- a step with the worker's answer

pub with_turn-requires-clause-worker : goal.with_turn-requires-clause-worker
with_turn-requires-clause-worker g c =
    let left = subst (StepOrHolds g.T.Transport c.args.limits.now c.args.worker c.args.now c.args.transport.now c.without_turn.new.transport c.args.pool.now c.without_turn.new.pool c.world.result.now.world)
    c.in-Ok-None.field-0-is (c.in-Ok-None.ensures.done c.args.limits.now) in
    subst (λ (p : Pool). c.args.worker < workers_of p) (sym left.1) c.requires.worker

pub with_turn-requires-clause-holds : goal.with_turn-requires-clause-holds
with_turn-requires-clause-holds g c =
    let left = subst (StepOrHolds g.T.Transport c.args.limits.now c.args.worker c.args.now c.args.transport.now c.without_turn.new.transport c.args.pool.now c.without_turn.new.pool c.world.result.now.world)
    c.in-Ok-None.field-0-is (c.in-Ok-None.ensures.done c.args.limits.now) in
    subst (λ (h : Holding). Holds c.args.worker c.args.now c.without_turn.new.pool h.world) c.world.ensures
    (subst (λ (p : Pool). Holds c.args.worker c.args.now p c.world.result.now.world) (sym left.1) left.0)

pub returns-in-Ok-None-clause-done : goal.returns-in-Ok-None-clause-done
returns-in-Ok-None-clause-done g c =
    let w = c.args.store.now.world.world in
    let v = c.with_turn.new.store.world.world in
    let left = subst (StepOrHolds g.T.Transport c.args.limits.now c.args.worker c.args.now c.args.transport.now c.without_turn.new.transport c.args.pool.now c.without_turn.new.pool c.world.result.now.world)
    c.in-Ok-None.field-0-is (c.in-Ok-None.ensures.done c.args.limits.now) in
    ok_map c.with_turn.result _
    (StepOf g.T.Transport c.args.limits.now c.args.worker c.args.now c.args.transport.now c.without_turn.new.transport c.args.pool.now c.with_turn.new.pool w v)
    (λ done h. subst (StepOf g.T.Transport c.args.limits.now c.args.worker c.args.now c.args.transport.now c.without_turn.new.transport c.args.pool.now c.with_turn.new.pool w v) (sym h.1)
    (subst (λ (p : Pool). CommitsTurn c.args.limits.now c.args.worker c.args.now p c.with_turn.new.pool w v h.0) left.1 h.2, left.2))
    c.with_turn.ensures.done

pub returns-in-Ok-None-clause-kept : goal.returns-in-Ok-None-clause-kept
returns-in-Ok-None-clause-kept g c =
    let left = subst (StepOrHolds g.T.Transport c.args.limits.now c.args.worker c.args.now c.args.transport.now c.without_turn.new.transport c.args.pool.now c.without_turn.new.pool c.world.result.now.world)
    c.in-Ok-None.field-0-is (c.in-Ok-None.ensures.done c.args.limits.now) in
    on_err c.with_turn.result (c.with_turn.new.pool ≡ c.without_turn.new.pool) (IsSamePool c.args.pool.now c.with_turn.new.pool)
    (λ e. subst (λ (p : Pool). IsSamePool p c.with_turn.new.pool) left.1 (same_pool c.without_turn.new.pool c.with_turn.new.pool e)) c.with_turn.ensures.kept

pub returns-in-Ok-None-clause-stepped : goal.returns-in-Ok-None-clause-stepped
returns-in-Ok-None-clause-stepped g c =
    let s = c.args.store.now in
    let left = subst (StepOrHolds g.T.Transport c.args.limits.now c.args.worker c.args.now c.args.transport.now c.without_turn.new.transport c.args.pool.now c.without_turn.new.pool c.world.result.now.world)
    c.in-Ok-None.field-0-is (c.in-Ok-None.ensures.done c.args.limits.now) in
    subst (λ (p : Pool). Stepped g.D.Disk (IsOrHeldTurn c.args.limits.now c.args.worker c.args.now p s.world.world s.journal) (is_live_after c.with_turn.result) s c.args.one.now c.args.two.now
    c.with_turn.new.store c.with_turn.new.one c.with_turn.new.two) left.1 c.with_turn.ensures.stepped

pub returns-in-Ok-None-clause-refused : goal.returns-in-Ok-None-clause-refused
returns-in-Ok-None-clause-refused g c =
    let s = c.args.store.now in
    let left = subst (StepOrHolds g.T.Transport c.args.limits.now c.args.worker c.args.now c.args.transport.now c.without_turn.new.transport c.args.pool.now c.without_turn.new.pool c.world.result.now.world)
    c.in-Ok-None.field-0-is (c.in-Ok-None.ensures.done c.args.limits.now) in
    subst (λ (p : Pool). IfErr c.with_turn.result (RefusesHeld c.args.limits.now c.args.worker c.args.now p s.journal s.world.world)) left.1 c.with_turn.ensures.refused

-- ---- directories

asked_on_ok : goal.returns-in-Ok-Some-clause-processes
asked_on_ok g c =
    asks_placed g.T.Transport c.args.worker c.args.now c.args.pool.now c.args.store.now.world.world c.without_turn.result c.args.transport.now c.without_turn.new.transport
    (subst (λ (h : Holding). AsksInStep g.T.Transport c.args.worker c.args.now c.args.pool.now h.world c.without_turn.result c.args.transport.now c.without_turn.new.transport) c.world.ensures c.without_turn.ensures.asks)

pub returns-in-Ok-Some-clause-processes : goal.returns-in-Ok-Some-clause-processes
returns-in-Ok-Some-clause-processes g c = asked_on_ok g c

pub returns-in-Ok-Some-clause-directories : goal.returns-in-Ok-Some-clause-directories
returns-in-Ok-Some-clause-directories g c = λ are told told_too.
    stands_leaves g.D.Disk c.args.store.now (of_world (AreOfProcesses (g.T.Transport.placed c.without_turn.new.transport))) c.args.one.now c.args.two.now g.met.D.Disk.only_now
    (c.requires.stands told told_too) (asked_on_ok g c are)

asked_on_err : goal.returns-in-Err-clause-processes
asked_on_err g c =
    asks_placed g.T.Transport c.args.worker c.args.now c.args.pool.now c.args.store.now.world.world c.without_turn.result c.args.transport.now c.without_turn.new.transport
    (subst (λ (h : Holding). AsksInStep g.T.Transport c.args.worker c.args.now c.args.pool.now h.world c.without_turn.result c.args.transport.now c.without_turn.new.transport) c.world.ensures c.without_turn.ensures.asks)

pub returns-in-Err-clause-processes : goal.returns-in-Err-clause-processes
returns-in-Err-clause-processes g c = asked_on_err g c

pub returns-in-Err-clause-directories : goal.returns-in-Err-clause-directories
returns-in-Err-clause-directories g c = λ are told told_too.
    stands_leaves g.D.Disk c.args.store.now (of_world (AreOfProcesses (g.T.Transport.placed c.without_turn.new.transport))) c.args.one.now c.args.two.now g.met.D.Disk.only_now
    (c.requires.stands told told_too) (asked_on_err g c are)

pub returns-in-Ok-None-clause-processes : goal.returns-in-Ok-None-clause-processes
returns-in-Ok-None-clause-processes g c = λ are.
    let s = c.args.store.now in
    let placed = asks_placed g.T.Transport c.args.worker c.args.now c.args.pool.now s.world.world c.without_turn.result c.args.transport.now c.without_turn.new.transport
    (subst (λ (h : Holding). AsksInStep g.T.Transport c.args.worker c.args.now c.args.pool.now h.world c.without_turn.result c.args.transport.now c.without_turn.new.transport) c.world.ensures c.without_turn.ensures.asks) are in
    held_placed c.args.limits.now c.args.worker c.args.now c.without_turn.new.pool s.world.world c.with_turn.new.store.world.world s.journal c.with_turn.new.store.journal
    (g.T.Transport.placed c.without_turn.new.transport) placed c.with_turn.ensures.stepped.comes.holds

pub returns-in-Ok-None-clause-directories : goal.returns-in-Ok-None-clause-directories
returns-in-Ok-None-clause-directories g c = λ are told told_too.
    let s = c.args.store.now in
    let P = IsOrHeldTurn c.args.limits.now c.args.worker c.args.now c.without_turn.new.pool s.world.world s.journal in
    let placed = asks_placed g.T.Transport c.args.worker c.args.now c.args.pool.now s.world.world c.without_turn.result c.args.transport.now c.without_turn.new.transport
    (subst (λ (h : Holding). AsksInStep g.T.Transport c.args.worker c.args.now c.args.pool.now h.world c.without_turn.result c.args.transport.now c.without_turn.new.transport) c.world.ensures c.without_turn.ensures.asks) are in
    weaker_leaves g.D.Disk s.place (InGeneration s.journal P) (of_world (AreOfProcesses (g.T.Transport.placed c.without_turn.new.transport))) c.args.one.now c.args.two.now c.with_turn.new.one c.with_turn.new.two
    (λ v journal either. held_placed c.args.limits.now c.args.worker c.args.now c.without_turn.new.pool s.world.world v s.journal journal (g.T.Transport.placed c.without_turn.new.transport) placed either.holds)
    (c.with_turn.ensures.stepped.moments told told_too)
