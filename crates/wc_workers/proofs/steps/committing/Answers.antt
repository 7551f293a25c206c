use Rattle.std.proofs.Common.{◌≡◌, true, inl, refl, sym, ap, subst, Bool}
use Rattle.wc_world.specs.Room.{Holding}
use Rattle.wc_store.specs.Stepped.{Stepped}
use Rattle.wc_store.proofs.Stepping.{not_stepped}
use Rattle.wc_pool.specs.Pools.{lease_in}
use Rattle.wc_machine.specs.Questions.{fits}
use Rattle.wc_runner.specs.Asked.{WhatItNeeds}
use Rattle.wc_runner.specs.Turns.{IsReady, RefusesChanges}
use Rattle.wc_workers.specs.Steps.{IsOrHeldTurn}
use Rattle.wc_workers.specs.declared.steps.Done.{Done}
use Rattle.wc_workers.proofs.Held.{changes_live, changes_refused, fits_what_it_needs, held_fits, held_stepped, live_alike, stored_refused, valid_is_current}
use Rattle.wc_workers.proofs.steps.committing.Goals as goal

pub changes_of-requires-clause-fits : goal.changes_of-requires-clause-fits
changes_of-requires-clause-fits g c =
    let w = c.args.store.now.world.world in
    subst (λ (h : Holding). WhatItNeeds h.world c.args.lease.pid (λ n. fits n c.args.answer ≡ true)) (sym c.world-2.ensures)
    (fits_what_it_needs w c.args.lease.pid c.args.answer (held_fits c.args.pool.now w c.args.worker c.args.lease c.args.answer c.args.now c.requires.fits c.requires.answered c.requires.valid))

pub returns-in-Err-clause-stepped : goal.returns-in-Err-clause-stepped
returns-in-Err-clause-stepped g c =
    let s = c.args.store.now in
    let w = s.world.world in
    let P = IsOrHeldTurn c.args.limits.now c.args.worker c.args.now c.args.pool.now w s.journal in
    let refused : RefusesChanges c.args.limits.now w c.args.lease.pid c.args.answer c.args.now c.in-Err.error
    = subst (λ (h : Holding). RefusesChanges c.args.limits.now h.world c.args.lease.pid c.args.answer c.args.now c.in-Err.error) c.world-2.ensures c.in-Err.ensures.refused in
    subst (λ (b : Bool). Stepped g.D.Disk P b s c.args.one.now c.args.two.now s c.args.one.now c.args.two.now)
    (sym (changes_live Done c.args.limits.now w c.args.lease.pid c.args.answer c.args.now c.in-Err.error refused))
    (not_stepped g.D.Disk P s c.args.one.now c.args.two.now g.met.D.Disk.only_now c.requires.live c.requires.stands (inl (refl, refl)))

pub returns-in-Err-clause-refused : goal.returns-in-Err-clause-refused
returns-in-Err-clause-refused g c =
    let s = c.args.store.now in
    let w = s.world.world in
    changes_refused c.args.limits.now c.args.worker c.args.now c.args.pool.now w c.args.lease c.args.answer c.requires.answered c.requires.valid c.requires.fits s.journal c.in-Err.error
    (subst (λ (h : Holding). RefusesChanges c.args.limits.now h.world c.args.lease.pid c.args.answer c.args.now c.in-Err.error) c.world-2.ensures c.in-Err.ensures.refused)

pub close-requires-clause-current : goal.close-requires-clause-current
close-requires-clause-current g c =
    valid_is_current c.args.pool.now c.args.store.now.world.world c.args.worker c.args.lease c.args.now c.requires.fits (ap lease_in c.requires.answered) c.requires.valid

pub returns-in-Ok-commit_changes-clause-stepped : goal.returns-in-Ok-commit_changes-clause-stepped
returns-in-Ok-commit_changes-clause-stepped g c =
    let s = c.args.store.now in
    let w = s.world.world in
    let ready : IsReady c.args.limits.now w c.args.lease.pid c.args.answer c.args.now c.in-Ok.changes
    = subst (λ (h : Holding). IsReady c.args.limits.now h.world c.args.lease.pid c.args.answer c.args.now c.in-Ok.changes) c.world-2.ensures c.in-Ok.ensures.ok in
    held_stepped c.args.limits.now c.args.worker c.args.now c.args.pool.now w c.args.lease c.args.answer c.requires.answered c.requires.valid c.requires.fits c.in-Ok.changes ready
    g.D.Disk _ s c.commit_changes.new.store c.args.one.now c.args.two.now c.commit_changes.new.one c.commit_changes.new.two refl c.in-Ok-commit_changes.ensures.stepped

pub returns-in-Err-commit_changes-clause-stepped :
    goal.returns-in-Err-commit_changes-clause-stepped
returns-in-Err-commit_changes-clause-stepped g c =
    let s = c.args.store.now in
    let w = s.world.world in
    let ready : IsReady c.args.limits.now w c.args.lease.pid c.args.answer c.args.now c.in-Ok.changes
    = subst (λ (h : Holding). IsReady c.args.limits.now h.world c.args.lease.pid c.args.answer c.args.now c.in-Ok.changes) c.world-2.ensures c.in-Ok.ensures.ok in
    subst (λ (b : Bool). Stepped g.D.Disk (IsOrHeldTurn c.args.limits.now c.args.worker c.args.now c.args.pool.now w s.journal) b s c.args.one.now c.args.two.now c.commit_changes.new.store c.commit_changes.new.one c.commit_changes.new.two)
    (live_alike (Unit {0}) Done c.in-Err-commit_changes.error)
    (held_stepped c.args.limits.now c.args.worker c.args.now c.args.pool.now w c.args.lease c.args.answer c.requires.answered c.requires.valid c.requires.fits c.in-Ok.changes ready
    g.D.Disk _ s c.commit_changes.new.store c.args.one.now c.args.two.now c.commit_changes.new.one c.commit_changes.new.two refl c.in-Err-commit_changes.ensures.stepped)

pub returns-in-Err-commit_changes-clause-refused :
    goal.returns-in-Err-commit_changes-clause-refused
returns-in-Err-commit_changes-clause-refused g c =
    let s = c.args.store.now in
    let w = s.world.world in
    let ready : IsReady c.args.limits.now w c.args.lease.pid c.args.answer c.args.now c.in-Ok.changes
    = subst (λ (h : Holding). IsReady c.args.limits.now h.world c.args.lease.pid c.args.answer c.args.now c.in-Ok.changes) c.world-2.ensures c.in-Ok.ensures.ok in
    stored_refused c.args.limits.now c.args.worker c.args.now c.args.pool.now w c.args.lease c.args.answer c.requires.answered c.requires.valid c.requires.fits c.in-Ok.changes ready
    s.journal c.in-Err-commit_changes.error c.in-Err-commit_changes.ensures.refused
