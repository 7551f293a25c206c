use Rattle.std.proofs.Common.{refl, sym, subst, IfOk, IsTrue}
use Rattle.std.specs.Prelude.{IfErr}
use Rattle.wc_world.specs.World.{World}
use Rattle.wc_plan.specs.declared.deed.Deed.TheVariants as deed
use Rattle.wc_plan.specs.declared.deed.Work.{Work}
use Rattle.wc_plan.specs.declared.reply.Reply.{Reply}
use Rattle.wc_act.specs.Crashes.{HoldsKeeping, LeavesPairs}
use Rattle.wc_act.specs.Owed.{visit, DoneOn, OfVisit}
use Rattle.wc_act.specs.Aborted.{WorkAborts}
use Rattle.wc_act.specs.Exchanges.{exchange}
use Rattle.wc_act.specs.Outside.{AsksByTurns, WorksOutside, IsNoRun}
use Rattle.wc_act.specs.Rows.{Stays, view_row, work_row}
use Rattle.wc_act.specs.StoreDeeds.{Images}
use Rattle.wc_act.specs.Undone.{EndsWith, ended_by}
use Rattle.wc_act.specs.declared.error.ActError.{ActError}
use Rattle.wc_act.specs.Views.{Shows}
use Rattle.wc_act.proofs.Broken.{each_error, no_run_aborts}
use Rattle.wc_act.proofs.Exchanged.{no_run_outside, of_each, work_unasked}
use Rattle.wc_act.proofs.Leaving.{standing}
use Rattle.wc_act.proofs.Visiting.{AreStill, are_still, visit_as}
use Rattle.wc_act.proofs.deeds.worked.Goals as goal

pub returns-in_err-view_reply-in-View-clause-kept : goal.returns-in_err-view_reply-in-View-clause-kept
returns-in_err-view_reply-in-View-clause-kept g c =
    λ told told_too.
    let one = c.args.one.now in
    let two = c.args.two.now in
    let w = c.args.store.now.world.world in
    let e = exchange g.T.Transport g.P.Pacer c.args.transport.now c.args.transport.now c.args.pacer.now c.args.pacer.now in
    let P : Work → Type 0 = λ k. LeavesPairs g.D.Disk one two one two (HoldsKeeping ((work_row k).makes e) (g.D.Disk.seen one, g.D.Disk.seen two) w) in
    subst P (sym c.in-View.is)
    (standing g.D.Disk g.met.D.Disk.only_now c.worlds_are_kept.ensures.reached c.worlds_are_kept.ensures.same c.args.store.now one two (c.requires.stands told told_too) Stays
    (λ goes. record { same = refl; journal = c.args.store.now.journal; next = c.args.store.now.journal; goes = goes }))

pub returns-in_ok-view_reply-in-View-clause-kept : goal.returns-in_ok-view_reply-in-View-clause-kept
returns-in_ok-view_reply-in-View-clause-kept g c =
    λ told told_too.
    let one = c.args.one.now in
    let two = c.args.two.now in
    let w = c.args.store.now.world.world in
    let e = exchange g.T.Transport g.P.Pacer c.args.transport.now c.args.transport.now c.args.pacer.now c.args.pacer.now in
    let P : Work → Type 0 = λ k. LeavesPairs g.D.Disk one two one two (HoldsKeeping ((work_row k).makes e) (g.D.Disk.seen one, g.D.Disk.seen two) w) in
    subst P (sym c.in-View.is)
    (standing g.D.Disk g.met.D.Disk.only_now c.worlds_are_kept.ensures.reached c.worlds_are_kept.ensures.same c.args.store.now one two (c.requires.stands told told_too) Stays
    (λ goes. record { same = refl; journal = c.args.store.now.journal; next = c.args.store.now.journal; goes = goes }))

pub returns-in_ok-view_reply-in-View-clause-does : goal.returns-in_ok-view_reply-in-View-clause-does
returns-in_ok-view_reply-in-View-clause-does g c =
    let s = c.args.store.now in
    let w = s.world.world in
    let r = c.in_ok-view_reply-in-View.field-0 in
    let v = visit g.D.Disk c.args.one.now c.args.two.now c.args.one.now c.args.two.now in
    let shows : Shows c.in-View.view w r = subst (λ (x : World). Shows c.in-View.view x r) (λ i. (c.world.ensures i).world) c.in_ok-view_reply-in-View.ensures in
    subst (λ (k : Work). OfVisit v (DoneOn (work_row k) w r)) (sym c.in-View.is)
    (visit_as v (AreStill s) (DoneOn (view_row c.in-View.view) w r) (λ before after still. (still.1.held, (still.0, shows)))
    (are_still g.D.Disk c.args.one.now c.args.two.now c.args.one.now c.args.two.now s c.requires.stands c.requires.images refl refl))

pub returns-in_err-view_reply-in-View-clause-durable : goal.returns-in_err-view_reply-in-View-clause-durable
returns-in_err-view_reply-in-View-clause-durable g c =
    λ unbroken told told_too.
    let s = c.requires.stands told told_too in
    record { durable_one = s.durable_one; durable_two = s.durable_two }

pub returns-in_ok-view_reply-in-View-clause-durable : goal.returns-in_ok-view_reply-in-View-clause-durable
returns-in_ok-view_reply-in-View-clause-durable g c =
    λ unbroken told told_too.
    let s = c.requires.stands told told_too in
    record { durable_one = s.durable_one; durable_two = s.durable_two }

pub returns-in-Event-clause-kept : goal.returns-in-Event-clause-kept
returns-in-Event-clause-kept g c =
    λ told told_too.
    let one = c.args.one.now in
    let two = c.args.two.now in
    let e = exchange g.T.Transport g.P.Pacer c.args.transport.now c.args.transport.now c.args.pacer.now c.args.pacer.now in
    let P : Work → Type 0 = λ k.
    LeavesPairs g.D.Disk one two c.event_reply.new.one c.event_reply.new.two (HoldsKeeping ((work_row k).makes e) (g.D.Disk.seen one, g.D.Disk.seen two) c.args.store.now.world.world) in
    subst P (sym c.in-Event.is) (c.event_reply.ensures.kept told told_too)

pub returns-in-Run-clause-kept : goal.returns-in-Run-clause-kept
returns-in-Run-clause-kept g c =
    λ told told_too.
    let one = c.args.one.now in
    let two = c.args.two.now in
    let e = exchange g.T.Transport g.P.Pacer c.args.transport.now c.run_reply.new.transport c.args.pacer.now c.run_reply.new.pacer in
    let P : Work → Type 0 = λ k.
    LeavesPairs g.D.Disk one two c.run_reply.new.one c.run_reply.new.two (HoldsKeeping ((work_row k).makes e) (g.D.Disk.seen one, g.D.Disk.seen two) c.args.store.now.world.world) in
    subst P (sym c.in-Run.is) (c.run_reply.ensures.kept told told_too)

pub returns-in-Pack-clause-kept : goal.returns-in-Pack-clause-kept
returns-in-Pack-clause-kept g c =
    λ told told_too.
    let one = c.args.one.now in
    let two = c.args.two.now in
    let e = exchange g.T.Transport g.P.Pacer c.args.transport.now c.args.transport.now c.args.pacer.now c.args.pacer.now in
    let P : Work → Type 0 = λ k.
    LeavesPairs g.D.Disk one two c.pack_reply.new.one c.pack_reply.new.two (HoldsKeeping ((work_row k).makes e) (g.D.Disk.seen one, g.D.Disk.seen two) c.args.store.now.world.world) in
    subst P (sym c.in-Pack.is) (c.pack_reply.ensures.kept told told_too)

pub returns-in-Event-clause-does : goal.returns-in-Event-clause-does
returns-in-Event-clause-does g c =
    let v = visit g.D.Disk c.args.one.now c.args.two.now c.event_reply.new.one c.event_reply.new.two in
    subst (λ (k : Work). IfOk c.event_reply.result (λ (r : Reply). OfVisit v (DoneOn (work_row k) c.args.store.now.world.world r))) (sym c.in-Event.is) c.event_reply.ensures.does

pub returns-in-Run-clause-does : goal.returns-in-Run-clause-does
returns-in-Run-clause-does g c =
    let v = visit g.D.Disk c.args.one.now c.args.two.now c.run_reply.new.one c.run_reply.new.two in
    subst (λ (k : Work). IfOk c.run_reply.result (λ (r : Reply). OfVisit v (DoneOn (work_row k) c.args.store.now.world.world r))) (sym c.in-Run.is) c.run_reply.ensures.does

pub returns-in-Pack-clause-does : goal.returns-in-Pack-clause-does
returns-in-Pack-clause-does g c =
    let v = visit g.D.Disk c.args.one.now c.args.two.now c.pack_reply.new.one c.pack_reply.new.two in
    subst (λ (k : Work). IfOk c.pack_reply.result (λ (r : Reply). OfVisit v (DoneOn (work_row k) c.args.store.now.world.world r))) (sym c.in-Pack.is) c.pack_reply.ensures.does

pub returns-in_err-view_reply-in-View-clause-asked : goal.returns-in_err-view_reply-in-View-clause-asked
returns-in_err-view_reply-in-View-clause-asked g c = work_unasked g.T.Transport c.args.work c.args.transport.now

pub returns-in_ok-view_reply-in-View-clause-asked : goal.returns-in_ok-view_reply-in-View-clause-asked
returns-in_ok-view_reply-in-View-clause-asked g c = work_unasked g.T.Transport c.args.work c.args.transport.now

pub returns-in-Event-clause-asked : goal.returns-in-Event-clause-asked
returns-in-Event-clause-asked g c = work_unasked g.T.Transport c.args.work c.args.transport.now

pub returns-in-Pack-clause-asked : goal.returns-in-Pack-clause-asked
returns-in-Pack-clause-asked g c = work_unasked g.T.Transport c.args.work c.args.transport.now

pub returns-in-Run-clause-untouched : goal.returns-in-Run-clause-untouched
returns-in-Run-clause-untouched g c =
    λ ends.
    let P : Work → Type 0 = λ k. EndsWith (work_row k).undone c.run_reply.result in
    absurd (c.run_reply.ensures.begun (subst P c.in-Run.is ends))

pub returns-in-Run-clause-unbegun : goal.returns-in-Run-clause-unbegun
returns-in-Run-clause-unbegun g c = λ ends. absurd (c.run_reply.ensures.begun ends)

pub returns-in-Run-clause-asked : goal.returns-in-Run-clause-asked
returns-in-Run-clause-asked g c =
    let P : Work → Type 0 = λ k. AsksByTurns g.T.Transport (deed.Work k) c.args.transport.now c.run_reply.new.transport in
    subst P (sym c.in-Run.is) c.run_reply.ensures.asked

pub returns-in_ok-view_reply-in-View-clause-outside : goal.returns-in_ok-view_reply-in-View-clause-outside
returns-in_ok-view_reply-in-View-clause-outside g c =
    λ told told_too.
    let e = exchange g.T.Transport g.P.Pacer c.args.transport.now c.args.transport.now c.args.pacer.now c.args.pacer.now in
    no_run_outside e c.args.work c.args.store.now.world.world (g.D.Disk.seen c.args.one.now, g.D.Disk.seen c.args.two.now) c.in_ok-view_reply-in-View.field-0.status
    (subst (λ (k : Work). IsNoRun k) (sym c.in-View.is) tt)

pub returns-in-Event-clause-outside : goal.returns-in-Event-clause-outside
returns-in-Event-clause-outside g c =
    let e = exchange g.T.Transport g.P.Pacer c.args.transport.now c.args.transport.now c.args.pacer.now c.args.pacer.now in
    let w = c.args.store.now.world.world in
    let after : Images = (g.D.Disk.seen c.event_reply.new.one, g.D.Disk.seen c.event_reply.new.two) in
    let P : Reply → Type 0 = λ r. IsTrue (g.D.Disk.tells c.args.one.now) → IsTrue (g.D.Disk.tells c.args.two.now) → WorksOutside e c.args.work w after r.status in
    of_each c.event_reply.result P (λ r told told_too. no_run_outside e c.args.work w after r.status (subst (λ (k : Work). IsNoRun k) (sym c.in-Event.is) tt))

pub returns-in-Pack-clause-outside : goal.returns-in-Pack-clause-outside
returns-in-Pack-clause-outside g c =
    let e = exchange g.T.Transport g.P.Pacer c.args.transport.now c.args.transport.now c.args.pacer.now c.args.pacer.now in
    let w = c.args.store.now.world.world in
    let after : Images = (g.D.Disk.seen c.pack_reply.new.one, g.D.Disk.seen c.pack_reply.new.two) in
    let P : Reply → Type 0 = λ r. IsTrue (g.D.Disk.tells c.args.one.now) → IsTrue (g.D.Disk.tells c.args.two.now) → WorksOutside e c.args.work w after r.status in
    of_each c.pack_reply.result P (λ r told told_too. no_run_outside e c.args.work w after r.status (subst (λ (k : Work). IsNoRun k) (sym c.in-Pack.is) tt))

pub returns-in-Run-clause-outside : goal.returns-in-Run-clause-outside
returns-in-Run-clause-outside g c =
    let e = exchange g.T.Transport g.P.Pacer c.args.transport.now c.run_reply.new.transport c.args.pacer.now c.run_reply.new.pacer in
    let w = c.args.store.now.world.world in
    let after : Images = (g.D.Disk.seen c.run_reply.new.one, g.D.Disk.seen c.run_reply.new.two) in
    let P : Work → Type 0 = λ k. IfOk c.run_reply.result (λ (r : Reply). IsTrue (g.D.Disk.tells c.args.one.now) → IsTrue (g.D.Disk.tells c.args.two.now) → WorksOutside e k w after r.status) in
    subst P (sym c.in-Run.is) c.run_reply.ensures.outside

-- ---- memory ran out, or a disk failed

pub returns-in_err-view_reply-in-View-clause-broken : goal.returns-in_err-view_reply-in-View-clause-broken
returns-in_err-view_reply-in-View-clause-broken g c =
    let e = exchange g.T.Transport g.P.Pacer c.args.transport.now c.args.transport.now c.args.pacer.now c.args.pacer.now in
    let P : ActError → Type 0 = λ x. IsTrue (g.D.Disk.tells c.args.one.now) → IsTrue (g.D.Disk.tells c.args.two.now)
    → WorkAborts g.D.Disk e c.args.work c.args.store.now.world.world c.args.one.now c.args.two.now (ended_by x) in
    each_error c.from_residual.result P (λ x told told_too.
    no_run_aborts g.D.Disk e c.args.work c.args.store.now.world.world c.args.one.now c.args.two.now (ended_by x) (subst (λ (k : Work). IsNoRun k) (sym c.in-View.is) tt))

pub returns-in-Event-clause-broken : goal.returns-in-Event-clause-broken
returns-in-Event-clause-broken g c =
    let e = exchange g.T.Transport g.P.Pacer c.args.transport.now c.args.transport.now c.args.pacer.now c.args.pacer.now in
    let P : ActError → Type 0 = λ x. IsTrue (g.D.Disk.tells c.args.one.now) → IsTrue (g.D.Disk.tells c.args.two.now)
    → WorkAborts g.D.Disk e c.args.work c.args.store.now.world.world c.event_reply.new.one c.event_reply.new.two (ended_by x) in
    each_error c.event_reply.result P (λ x told told_too.
    no_run_aborts g.D.Disk e c.args.work c.args.store.now.world.world c.event_reply.new.one c.event_reply.new.two (ended_by x) (subst (λ (k : Work). IsNoRun k) (sym c.in-Event.is) tt))

pub returns-in-Pack-clause-broken : goal.returns-in-Pack-clause-broken
returns-in-Pack-clause-broken g c =
    let e = exchange g.T.Transport g.P.Pacer c.args.transport.now c.args.transport.now c.args.pacer.now c.args.pacer.now in
    let P : ActError → Type 0 = λ x. IsTrue (g.D.Disk.tells c.args.one.now) → IsTrue (g.D.Disk.tells c.args.two.now)
    → WorkAborts g.D.Disk e c.args.work c.args.store.now.world.world c.pack_reply.new.one c.pack_reply.new.two (ended_by x) in
    each_error c.pack_reply.result P (λ x told told_too.
    no_run_aborts g.D.Disk e c.args.work c.args.store.now.world.world c.pack_reply.new.one c.pack_reply.new.two (ended_by x) (subst (λ (k : Work). IsNoRun k) (sym c.in-Pack.is) tt))

pub returns-in-Run-clause-broken : goal.returns-in-Run-clause-broken
returns-in-Run-clause-broken g c =
    let e = exchange g.T.Transport g.P.Pacer c.args.transport.now c.run_reply.new.transport c.args.pacer.now c.run_reply.new.pacer in
    let P : Work → Type 0 = λ k. IfErr c.run_reply.result (λ (x : ActError). IsTrue (g.D.Disk.tells c.args.one.now) → IsTrue (g.D.Disk.tells c.args.two.now)
    → WorkAborts g.D.Disk e k c.args.store.now.world.world c.run_reply.new.one c.run_reply.new.two (ended_by x)) in
    subst P (sym c.in-Run.is) c.run_reply.ensures.broken
