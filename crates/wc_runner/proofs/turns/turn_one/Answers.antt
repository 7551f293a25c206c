use Rattle.std.proofs.Common.{inl, inr, Bool, Ok, Err, refl, sym, subst, ⊎_elim}
use Rattle.std.specs.Prelude.{IsSome}
use Rattle.wc_world.specs.Room.{Holding}
use Rattle.wc_machine.specs.Questions.{need}
use Rattle.wc_store.specs.Stepped.{InGeneration, IsCommitted, IsOrCommitted, Stepped, of_world}
use Rattle.wc_store.proofs.Stepping.{not_stepped, stands_leaves, weaker_leaves, weaker_step}
use Rattle.wc_runner.specs.Asked.{AreOfProcesses, AsksOnce, IsAsked, WhatItNeeds}
use Rattle.wc_runner.specs.Leaves.{IsOrTurnOf, IsTurnWithin}
use Rattle.wc_runner.specs.Outside.{in_turn}
use Rattle.wc_runner.specs.Refusals.{RefusesPrepared, RefusesStep, RefusesStored, is_live_after}
use Rattle.wc_runner.specs.Turns.{IsPrepared}
use Rattle.wc_runner.proofs.Accepted.{commit_refused, if_err, on_ok, step_refused, still_live, turn_committed, unchanged}
use Rattle.wc_runner.proofs.Needed.{asks_on, needs_map}
use Rattle.wc_runner.proofs.Placed.{own_placed, turn_placed}
use Rattle.wc_runner.proofs.Taken.{ready_there, what_it_needs}
use Rattle.wc_runner.proofs.turns.turn_one.Goals as goal

-- ---- the turn is committed, or its commit is refused

pub returns-in-Ok-clause-stepped : goal.returns-in-Ok-clause-stepped
returns-in-Ok-clause-stepped g c =
    let s = c.args.store.now in
    let w = s.world.world in
    let o = in_turn g.T.Transport c.args.limits.now c.args.now c.args.transport.now c.prepared.new.transport in
    let p : IsPrepared o c.args.pid w c.in-Ok.changes = subst (λ (h : Holding). IsPrepared o c.args.pid h.world c.in-Ok.changes) c.world.ensures c.in-Ok.ensures.ok in
    weaker_step g.D.Disk (IsOrCommitted c.args.limits.now c.in-Ok.changes s) (IsOrTurnOf o c.args.pid w s.journal) (is_live_after c.commit_changes.result) s c.commit_changes.new.store
    c.args.one.now c.args.two.now c.commit_changes.new.one c.commit_changes.new.two
    (λ v journal h. ⊎_elim (λ same. inl same) (λ (is : IsCommitted c.args.limits.now c.in-Ok.changes s v journal). inr (turn_committed o c.args.pid w c.in-Ok.changes p s refl v journal is)) h.holds)
    c.commit_changes.ensures.stepped

pub returns-in-Ok-clause-ok : goal.returns-in-Ok-clause-ok
returns-in-Ok-clause-ok g c =
    let s = c.args.store.now in
    let w = s.world.world in
    let o = in_turn g.T.Transport c.args.limits.now c.args.now c.args.transport.now c.prepared.new.transport in
    let p : IsPrepared o c.args.pid w c.in-Ok.changes = subst (λ (h : Holding). IsPrepared o c.args.pid h.world c.in-Ok.changes) c.world.ensures c.in-Ok.ensures.ok in
    on_ok c.commit_changes.result _ (IsTurnWithin o c.args.pid w c.commit_changes.new.store.world.world c.commit_changes.new.store.journal)
    (λ is. turn_committed o c.args.pid w c.in-Ok.changes p s refl c.commit_changes.new.store.world.world c.commit_changes.new.store.journal is) c.commit_changes.ensures.done

pub returns-in-Ok-clause-same : goal.returns-in-Ok-clause-same
returns-in-Ok-clause-same g c = c.commit_changes.ensures.same

pub returns-in-Ok-clause-refused : goal.returns-in-Ok-clause-refused
returns-in-Ok-clause-refused g c =
    let s = c.args.store.now in
    let w = s.world.world in
    let o = in_turn g.T.Transport c.args.limits.now c.args.now c.args.transport.now c.prepared.new.transport in
    let p : IsPrepared o c.args.pid w c.in-Ok.changes = subst (λ (h : Holding). IsPrepared o c.args.pid h.world c.in-Ok.changes) c.world.ensures c.in-Ok.ensures.ok in
    if_err c.commit_changes.result (RefusesStored s.journal c.args.limits.now w c.in-Ok.changes) (RefusesStep o s.journal w c.args.pid) (λ e refused. commit_refused o c.args.pid w c.in-Ok.changes p s.journal e refused) c.commit_changes.ensures.refused

pub returns-in-Ok-clause-untouched : goal.returns-in-Ok-clause-untouched
returns-in-Ok-clause-untouched g c = c.commit_changes.ensures.untouched

pub returns-in-Ok-clause-directories : goal.returns-in-Ok-clause-directories
returns-in-Ok-clause-directories g c =
    let s = c.args.store.now in
    let w = s.world.world in
    let o = in_turn g.T.Transport c.args.limits.now c.args.now c.args.transport.now c.prepared.new.transport in
    let stays : WhatItNeeds w c.args.pid (λ n. IsAsked g.T.Transport c.args.pid n c.args.transport.now c.prepared.new.transport)
    = subst (λ (h : Holding). WhatItNeeds h.world c.args.pid (λ n. IsAsked g.T.Transport c.args.pid n c.args.transport.now c.prepared.new.transport)) c.world.ensures c.in-Ok.ensures.stays in
    let there = ready_there w c.args.pid c.args.now c.requires.ready in
    let asked : IsAsked g.T.Transport c.args.pid (need w there.0) c.args.transport.now c.prepared.new.transport
    = what_it_needs w c.args.pid (λ n. IsAsked g.T.Transport c.args.pid n c.args.transport.now c.prepared.new.transport) there.0 there.1 stays in
    let own : AreOfProcesses (g.T.Transport.placed c.args.transport.now) w → AreOfProcesses (g.T.Transport.placed c.prepared.new.transport) w
    = own_placed c.args.pid (need w there.0) (g.T.Transport.placed c.args.transport.now) (g.T.Transport.placed c.prepared.new.transport) w (subst IsSome (sym there.1) refl) asked.placed in
    λ are told told_too.
    weaker_leaves g.D.Disk s.place (InGeneration s.journal (IsOrTurnOf o c.args.pid w s.journal)) (of_world (AreOfProcesses (g.T.Transport.placed c.prepared.new.transport))) c.args.one.now c.args.two.now c.commit_changes.new.one c.commit_changes.new.two
    (λ v journal either. turn_placed o c.args.pid w v s.journal journal (g.T.Transport.placed c.prepared.new.transport) (own are) either.holds)
    ((returns-in-Ok-clause-stepped g c).moments told told_too)

pub returns-in-Ok-clause-processes : goal.returns-in-Ok-clause-processes
returns-in-Ok-clause-processes g c =
    let s = c.args.store.now in
    let w = s.world.world in
    let o = in_turn g.T.Transport c.args.limits.now c.args.now c.args.transport.now c.prepared.new.transport in
    let stays : WhatItNeeds w c.args.pid (λ n. IsAsked g.T.Transport c.args.pid n c.args.transport.now c.prepared.new.transport)
    = subst (λ (h : Holding). WhatItNeeds h.world c.args.pid (λ n. IsAsked g.T.Transport c.args.pid n c.args.transport.now c.prepared.new.transport)) c.world.ensures c.in-Ok.ensures.stays in
    let there = ready_there w c.args.pid c.args.now c.requires.ready in
    let asked : IsAsked g.T.Transport c.args.pid (need w there.0) c.args.transport.now c.prepared.new.transport
    = what_it_needs w c.args.pid (λ n. IsAsked g.T.Transport c.args.pid n c.args.transport.now c.prepared.new.transport) there.0 there.1 stays in
    let own : AreOfProcesses (g.T.Transport.placed c.args.transport.now) w → AreOfProcesses (g.T.Transport.placed c.prepared.new.transport) w
    = own_placed c.args.pid (need w there.0) (g.T.Transport.placed c.args.transport.now) (g.T.Transport.placed c.prepared.new.transport) w (subst IsSome (sym there.1) refl) asked.placed in
    λ are. turn_placed o c.args.pid w c.commit_changes.new.store.world.world s.journal c.commit_changes.new.store.journal (g.T.Transport.placed c.prepared.new.transport) (own are)
    (returns-in-Ok-clause-stepped g c).comes.holds

pub returns-in-Ok-clause-asks : goal.returns-in-Ok-clause-asks
returns-in-Ok-clause-asks g c =
    let w = c.args.store.now.world.world in
    needs_map w c.args.pid (AsksOnce (Ok c.in-Ok.changes) g.T.Transport.asked c.args.transport.now c.prepared.new.transport)
    (AsksOnce c.commit_changes.result g.T.Transport.asked c.args.transport.now c.prepared.new.transport)
    (λ n once. asks_on c.in-Ok.changes c.commit_changes.result g.T.Transport.asked c.args.transport.now c.prepared.new.transport n once)
    (subst (λ (h : Holding). WhatItNeeds h.world c.args.pid (AsksOnce (Ok c.in-Ok.changes) g.T.Transport.asked c.args.transport.now c.prepared.new.transport)) c.world.ensures c.in-Ok.ensures.asks)

pub returns-in-Ok-clause-stays : goal.returns-in-Ok-clause-stays
returns-in-Ok-clause-stays g c =
    subst (λ (h : Holding). WhatItNeeds h.world c.args.pid (λ n. IsAsked g.T.Transport c.args.pid n c.args.transport.now c.prepared.new.transport)) c.world.ensures c.in-Ok.ensures.stays

-- ---- the turn is refused before any disk is called

pub returns-in-Err-clause-stepped : goal.returns-in-Err-clause-stepped
returns-in-Err-clause-stepped g c =
    let s = c.args.store.now in
    let w = s.world.world in
    let o = in_turn g.T.Transport c.args.limits.now c.args.now c.args.transport.now c.prepared.new.transport in
    let refused : RefusesPrepared o c.args.pid w c.in-Err.error = subst (λ (h : Holding). RefusesPrepared o c.args.pid h.world c.in-Err.error) c.world.ensures c.in-Err.ensures.refused in
    subst (λ (b : Bool). Stepped g.D.Disk (IsOrTurnOf o c.args.pid w s.journal) b s c.args.one.now c.args.two.now s c.args.one.now c.args.two.now)
    (sym (still_live o w c.args.pid c.in-Err.error refused))
    (not_stepped g.D.Disk (IsOrTurnOf o c.args.pid w s.journal) s c.args.one.now c.args.two.now g.met.D.Disk.only_now c.requires.live c.requires.stands (inl (refl, refl)))

pub returns-in-Err-clause-same : goal.returns-in-Err-clause-same
returns-in-Err-clause-same g c = (refl, refl)

pub returns-in-Err-clause-refused : goal.returns-in-Err-clause-refused
returns-in-Err-clause-refused g c =
    let s = c.args.store.now in
    let w = s.world.world in
    let o = in_turn g.T.Transport c.args.limits.now c.args.now c.args.transport.now c.prepared.new.transport in
    let refused : RefusesPrepared o c.args.pid w c.in-Err.error = subst (λ (h : Holding). RefusesPrepared o c.args.pid h.world c.in-Err.error) c.world.ensures c.in-Err.ensures.refused in
    step_refused o s.journal w c.args.pid c.in-Err.error refused

pub returns-in-Err-clause-untouched : goal.returns-in-Err-clause-untouched
returns-in-Err-clause-untouched g c = (unchanged c.in-Err.error c.args.one.now, unchanged c.in-Err.error c.args.two.now)

pub returns-in-Err-clause-directories : goal.returns-in-Err-clause-directories
returns-in-Err-clause-directories g c =
    let s = c.args.store.now in
    let w = s.world.world in
    let o = in_turn g.T.Transport c.args.limits.now c.args.now c.args.transport.now c.prepared.new.transport in
    let stays : WhatItNeeds w c.args.pid (λ n. IsAsked g.T.Transport c.args.pid n c.args.transport.now c.prepared.new.transport)
    = subst (λ (h : Holding). WhatItNeeds h.world c.args.pid (λ n. IsAsked g.T.Transport c.args.pid n c.args.transport.now c.prepared.new.transport)) c.world.ensures c.in-Err.ensures.stays in
    let there = ready_there w c.args.pid c.args.now c.requires.ready in
    let asked : IsAsked g.T.Transport c.args.pid (need w there.0) c.args.transport.now c.prepared.new.transport
    = what_it_needs w c.args.pid (λ n. IsAsked g.T.Transport c.args.pid n c.args.transport.now c.prepared.new.transport) there.0 there.1 stays in
    let own : AreOfProcesses (g.T.Transport.placed c.args.transport.now) w → AreOfProcesses (g.T.Transport.placed c.prepared.new.transport) w
    = own_placed c.args.pid (need w there.0) (g.T.Transport.placed c.args.transport.now) (g.T.Transport.placed c.prepared.new.transport) w (subst IsSome (sym there.1) refl) asked.placed in
    λ are told told_too. stands_leaves g.D.Disk s (of_world (AreOfProcesses (g.T.Transport.placed c.prepared.new.transport))) c.args.one.now c.args.two.now g.met.D.Disk.only_now (c.requires.stands told told_too) (own are)

pub returns-in-Err-clause-processes : goal.returns-in-Err-clause-processes
returns-in-Err-clause-processes g c =
    let s = c.args.store.now in
    let w = s.world.world in
    let o = in_turn g.T.Transport c.args.limits.now c.args.now c.args.transport.now c.prepared.new.transport in
    let stays : WhatItNeeds w c.args.pid (λ n. IsAsked g.T.Transport c.args.pid n c.args.transport.now c.prepared.new.transport)
    = subst (λ (h : Holding). WhatItNeeds h.world c.args.pid (λ n. IsAsked g.T.Transport c.args.pid n c.args.transport.now c.prepared.new.transport)) c.world.ensures c.in-Err.ensures.stays in
    let there = ready_there w c.args.pid c.args.now c.requires.ready in
    let asked : IsAsked g.T.Transport c.args.pid (need w there.0) c.args.transport.now c.prepared.new.transport
    = what_it_needs w c.args.pid (λ n. IsAsked g.T.Transport c.args.pid n c.args.transport.now c.prepared.new.transport) there.0 there.1 stays in
    let own : AreOfProcesses (g.T.Transport.placed c.args.transport.now) w → AreOfProcesses (g.T.Transport.placed c.prepared.new.transport) w
    = own_placed c.args.pid (need w there.0) (g.T.Transport.placed c.args.transport.now) (g.T.Transport.placed c.prepared.new.transport) w (subst IsSome (sym there.1) refl) asked.placed in
    own

pub returns-in-Err-clause-asks : goal.returns-in-Err-clause-asks
returns-in-Err-clause-asks g c =
    subst (λ (h : Holding). WhatItNeeds h.world c.args.pid (AsksOnce {A = Unit {0}} (Err c.in-Err.error) g.T.Transport.asked c.args.transport.now c.prepared.new.transport)) c.world.ensures c.in-Err.ensures.asks

pub returns-in-Err-clause-stays : goal.returns-in-Err-clause-stays
returns-in-Err-clause-stays g c =
    subst (λ (h : Holding). WhatItNeeds h.world c.args.pid (λ n. IsAsked g.T.Transport c.args.pid n c.args.transport.now c.prepared.new.transport)) c.world.ensures c.in-Err.ensures.stays
