use Rattle.std.proofs.Common.{◌≡◌, inl, inr, ⊎_elim, IsTrue, Ok, Err, refl, sym, subst, ◌∙◌}
use Rattle.wc_drill.specs.Runner.declared.error.RunError.{RunError}
use Rattle.wc_drill.specs.Runner.declared.runs.RunEnd.{RunEnd}
use Rattle.wc_drill.specs.Runner.declared.error.RunError.TheVariants as run_error
use Rattle.wc_drill.specs.Runner.Asked.{AreOfProcesses}
use Rattle.wc_drill.specs.Runner.Outside.{in_run}
use Rattle.wc_drill.specs.Runner.Refusals.{RefusesRun, is_live_after}
use Rattle.wc_store.specs.Stepped.{Called}
use Rattle.wc_plan.specs.declared.reply.Reply.{Reply}
use Rattle.wc_plan.specs.declared.status.Status.TheVariants as status
use Rattle.wc_act.specs.declared.error.ActError.{ActError}
use Rattle.wc_act.specs.Aborted.{BreaksOutside}
use Rattle.wc_act.specs.Exchanges.{exchange}
use Rattle.wc_act.specs.Runs.{has_run}
use Rattle.wc_act.specs.Owed.{visit, DoneOn}
use Rattle.wc_act.specs.Rows.{run_row}
use Rattle.wc_act.specs.Undone.{IsBeforeTurns, ended_by}
use Rattle.wc_act.proofs.Broken.{breaks_outside, fault_no_memory, fault_told, lost_is, lost_told, now_pairs, rest_durable}
use Rattle.wc_act.proofs.Exchanged.{ended_outside, filled_outside}
use Rattle.wc_act.proofs.Leaving.{taken}
use Rattle.wc_act.proofs.Visiting.{AreOfStores, are_of_stores, visit_as}
use Rattle.wc_act.proofs.Turns.{run_written, has_come, fills_at}
use Rattle.wc_act.proofs.Widening.{takes_up_to, ends_so}
use Rattle.wc_act.proofs.Told.{counts_lost}
use Rattle.wc_act.proofs.runs.run_reply.Goals as goal

pub returns-in_err-has_run-in-Ok-clause-kept : goal.returns-in_err-has_run-in-Ok-clause-kept
returns-in_err-has_run-in-Ok-clause-kept g c =
    λ told told_too.
    let p = c.args.options in
    taken g.D.Disk g.met.D.Disk.only_now c.worlds_are_kept.ensures.reached c.worlds_are_kept.ensures.same c.args.store.now c.args.one.now c.args.two.now (c.requires.stands told told_too)
    g.T.Transport g.P.Pacer p c.args.transport.now c.run.new.transport c.args.pacer.now c.run.new.pacer
    (c.turns_keep_sound.ensures.in_run p.limits c.args.transport.now c.run.new.transport c.run.new.pacer) c.run.new.one c.run.new.two (c.run.ensures.stepped.moments told told_too)

pub returns-in_ok-has_run-in-Ok-clause-kept : goal.returns-in_ok-has_run-in-Ok-clause-kept
returns-in_ok-has_run-in-Ok-clause-kept g c =
    λ told told_too.
    let p = c.args.options in
    taken g.D.Disk g.met.D.Disk.only_now c.worlds_are_kept.ensures.reached c.worlds_are_kept.ensures.same c.args.store.now c.args.one.now c.args.two.now (c.requires.stands told told_too)
    g.T.Transport g.P.Pacer p c.args.transport.now c.run.new.transport c.args.pacer.now c.run.new.pacer
    (c.turns_keep_sound.ensures.in_run p.limits c.args.transport.now c.run.new.transport c.run.new.pacer) c.run.new.one c.run.new.two (c.run.ensures.stepped.moments told told_too)

pub returns-in-Err-DiskFault-clause-kept : goal.returns-in-Err-DiskFault-clause-kept
returns-in-Err-DiskFault-clause-kept g c =
    λ told told_too.
    let p = c.args.options in
    taken g.D.Disk g.met.D.Disk.only_now c.worlds_are_kept.ensures.reached c.worlds_are_kept.ensures.same c.args.store.now c.args.one.now c.args.two.now (c.requires.stands told told_too)
    g.T.Transport g.P.Pacer p c.args.transport.now c.run.new.transport c.args.pacer.now c.run.new.pacer
    (c.turns_keep_sound.ensures.in_run p.limits c.args.transport.now c.run.new.transport c.run.new.pacer) c.run.new.one c.run.new.two (c.run.ensures.stepped.moments told told_too)

pub returns-in_err-full-in-Err-Full-clause-kept : goal.returns-in_err-full-in-Err-Full-clause-kept
returns-in_err-full-in-Err-Full-clause-kept g c =
    λ told told_too.
    let p = c.args.options in
    taken g.D.Disk g.met.D.Disk.only_now c.worlds_are_kept.ensures.reached c.worlds_are_kept.ensures.same c.args.store.now c.args.one.now c.args.two.now (c.requires.stands told told_too)
    g.T.Transport g.P.Pacer p c.args.transport.now c.run.new.transport c.args.pacer.now c.run.new.pacer
    (c.turns_keep_sound.ensures.in_run p.limits c.args.transport.now c.run.new.transport c.run.new.pacer) c.run.new.one c.run.new.two (c.run.ensures.stepped.moments told told_too)

pub returns-in_ok-full-in-Err-Full-clause-kept : goal.returns-in_ok-full-in-Err-Full-clause-kept
returns-in_ok-full-in-Err-Full-clause-kept g c =
    λ told told_too.
    let p = c.args.options in
    taken g.D.Disk g.met.D.Disk.only_now c.worlds_are_kept.ensures.reached c.worlds_are_kept.ensures.same c.args.store.now c.args.one.now c.args.two.now (c.requires.stands told told_too)
    g.T.Transport g.P.Pacer p c.args.transport.now c.run.new.transport c.args.pacer.now c.run.new.pacer
    (c.turns_keep_sound.ensures.in_run p.limits c.args.transport.now c.run.new.transport c.run.new.pacer) c.run.new.one c.run.new.two (c.run.ensures.stepped.moments told told_too)

pub returns-in-Err-OutOfMemory-clause-kept : goal.returns-in-Err-OutOfMemory-clause-kept
returns-in-Err-OutOfMemory-clause-kept g c =
    λ told told_too.
    let p = c.args.options in
    taken g.D.Disk g.met.D.Disk.only_now c.worlds_are_kept.ensures.reached c.worlds_are_kept.ensures.same c.args.store.now c.args.one.now c.args.two.now (c.requires.stands told told_too)
    g.T.Transport g.P.Pacer p c.args.transport.now c.run.new.transport c.args.pacer.now c.run.new.pacer
    (c.turns_keep_sound.ensures.in_run p.limits c.args.transport.now c.run.new.transport c.run.new.pacer) c.run.new.one c.run.new.two (c.run.ensures.stepped.moments told told_too)

pub returns-in_ok-has_run-in-Ok-clause-does : goal.returns-in_ok-has_run-in-Ok-clause-does
returns-in_ok-has_run-in-Ok-clause-does g c =
    let p = c.args.options in
    let s = c.args.store.now in
    let new = c.run.new.store in
    let w = s.world.world in
    let v = new.world.world in
    let r = c.in_ok-has_run-in-Ok.field-0 in
    let o = in_run g.T.Transport g.P.Pacer p.limits c.args.transport.now c.run.new.transport c.run.new.pacer in
    let begun : w.batches ≡ c.batches-begun.result = sym (c.batches-begun.ensures ∙ (λ i. (c.world.ensures i).world.batches)) in
    visit_as (visit g.D.Disk c.args.one.now c.args.two.now c.run.new.one c.run.new.two) (AreOfStores s new) (DoneOn (run_row p) w r)
    (has_come p s new r (takes_up_to o p.turns w v (g.P.Pacer.rests c.args.pacer.now) (g.P.Pacer.rests c.run.new.pacer) c.run.ensures.takes) (⊎_elim (λ still. inl still.0) (λ fits. inr fits) c.run.ensures.stepped.comes.holds.led.fits) (c.run.ensures.stepped.place, c.run.ensures.stepped.comes.generation, c.run.ensures.stepped.comes.version)
    (inl (record {
      end = c.in-Ok.end;
      ends = ends_so o p.turns w v (g.P.Pacer.rests c.args.pacer.now) (g.P.Pacer.rests c.run.new.pacer) c.in-Ok.end c.in-Ok.ensures.ends;
      reply = c.in_ok-has_run-in-Ok.ensures w begun ∙ (λ i. has_run c.in-Ok.end w (c.world-in-Ok.ensures i).world);
    })))
    (are_of_stores g.D.Disk c.args.one.now c.args.two.now c.run.new.one c.run.new.two s new c.requires.stands c.requires.images (c.in-Ok.ensures.stepped.call.stands refl)
    c.run.ensures.stepped.images (λ told told_too. (c.run.ensures.stepped.moments told told_too).untouched))

pub returns-in_ok-full-in-Err-Full-clause-does : goal.returns-in_ok-full-in-Err-Full-clause-does
returns-in_ok-full-in-Err-Full-clause-does g c =
    let p = c.args.options in
    let s = c.args.store.now in
    let new = c.run.new.store in
    let w = s.world.world in
    let v = new.world.world in
    let f = c.in-Err-Full in
    let r = c.in_ok-full-in-Err-Full.field-0 in
    let o = in_run g.T.Transport g.P.Pacer p.limits c.args.transport.now c.run.new.transport c.run.new.pacer in
    let full = subst (λ (e : RunError). RefusesRun o new e) f.field-0-is f.ensures.refused in
    let call = subst (λ (x : RunError). Called g.D.Disk (is_live_after {T = RunEnd} (Err x)) c.args.one.now c.args.two.now c.run.new.store c.run.new.one c.run.new.two) f.field-0-is f.ensures.stepped.call in
    visit_as (visit g.D.Disk c.args.one.now c.args.two.now c.run.new.one c.run.new.two) (AreOfStores s new) (DoneOn (run_row p) w r)
    (has_come p s new r (takes_up_to o p.turns w v (g.P.Pacer.rests c.args.pacer.now) (g.P.Pacer.rests c.run.new.pacer) c.run.ensures.takes) (⊎_elim (λ still. inl still.0) (λ fits. inr fits) c.run.ensures.stepped.comes.holds.led.fits) (c.run.ensures.stepped.place, c.run.ensures.stepped.comes.generation, c.run.ensures.stepped.comes.version)
    (inr (fills_at o p w new (g.P.Pacer.rests c.args.pacer.now) (g.P.Pacer.rests c.run.new.pacer) f.what f.count f.limit r refl full f.ensures.ends c.in_ok-full-in-Err-Full.ensures)))
    (are_of_stores g.D.Disk c.args.one.now c.args.two.now c.run.new.one c.run.new.two s new c.requires.stands c.requires.images (call.stands refl)
    c.run.ensures.stepped.images (λ told told_too. (c.run.ensures.stepped.moments told told_too).untouched))

pub returns-in_ok-has_run-in-Ok-clause-begun : goal.returns-in_ok-has_run-in-Ok-clause-begun
returns-in_ok-has_run-in-Ok-clause-begun g c =
    λ ends.
    let w = c.args.store.now.world.world in
    let begun : w.batches ≡ c.batches-begun.result = sym (c.batches-begun.ensures ∙ (λ i. (c.world.ensures i).world.batches)) in
    run_written c.in-Ok.end (subst (λ (r : Reply). IsBeforeTurns r.status) (c.in_ok-has_run-in-Ok.ensures w begun) ends)

pub returns-in_ok-full-in-Err-Full-clause-begun : goal.returns-in_ok-full-in-Err-Full-clause-begun
returns-in_ok-full-in-Err-Full-clause-begun g c = λ ends. subst (λ (r : Reply). IsBeforeTurns r.status) c.in_ok-full-in-Err-Full.ensures ends

pub returns-in_ok-full-in-Err-Full-clause-durable : goal.returns-in_ok-full-in-Err-Full-clause-durable
returns-in_ok-full-in-Err-Full-clause-durable g c =
    λ unbroken told told_too.
    let f = c.in-Err-Full in
    let call = subst (λ (x : RunError). Called g.D.Disk (is_live_after {T = RunEnd} (Err x)) c.args.one.now c.args.two.now c.run.new.store c.run.new.one c.run.new.two) f.field-0-is f.ensures.stepped.call in
    let stands = call.stands refl told told_too in
    record { durable_one = stands.durable_one; durable_two = stands.durable_two }

pub returns-in_ok-has_run-in-Ok-clause-outside : goal.returns-in_ok-has_run-in-Ok-clause-outside
returns-in_ok-has_run-in-Ok-clause-outside g c =
    λ told told_too.
    let w = c.args.store.now.world.world in
    let e = exchange g.T.Transport g.P.Pacer c.args.transport.now c.run.new.transport c.args.pacer.now c.run.new.pacer in
    let begun : w.batches ≡ c.batches-begun.result = sym (c.batches-begun.ensures ∙ (λ i. (c.world.ensures i).world.batches)) in
    ended_outside g.D.Disk e c.args.options w c.run.new.store c.run.new.one c.run.new.two c.in_ok-has_run-in-Ok.field-0
    (c.in-Ok.ensures.stepped.call.stands refl told told_too)
    c.run.ensures.takes
    (c.run.ensures.codes (c.worlds_are_kept.ensures.reached (g.D.Disk.seen c.args.one.now) (g.D.Disk.seen c.args.two.now) w (c.requires.stands told told_too).held))
    c.run.ensures.marks
    c.run.ensures.processes
    c.in-Ok.end
    c.in-Ok.ensures.ends
    c.in-Ok.ensures.went
    (c.in_ok-has_run-in-Ok.ensures w begun ∙ (λ i. has_run c.in-Ok.end w (c.world-in-Ok.ensures i).world))

pub returns-in_ok-full-in-Err-Full-clause-outside : goal.returns-in_ok-full-in-Err-Full-clause-outside
returns-in_ok-full-in-Err-Full-clause-outside g c =
    λ told told_too.
    let w = c.args.store.now.world.world in
    let f = c.in-Err-Full in
    let o = in_run g.T.Transport g.P.Pacer c.args.options.limits c.args.transport.now c.run.new.transport c.run.new.pacer in
    let e = exchange g.T.Transport g.P.Pacer c.args.transport.now c.run.new.transport c.args.pacer.now c.run.new.pacer in
    let full = subst (λ (x : RunError). RefusesRun o c.run.new.store x) f.field-0-is f.ensures.refused in
    let call = subst (λ (x : RunError). Called g.D.Disk (is_live_after {T = RunEnd} (Err x)) c.args.one.now c.args.two.now c.run.new.store c.run.new.one c.run.new.two) f.field-0-is f.ensures.stepped.call in
    let broken = subst (λ (x : RunError). e.went c.args.options.limits c.args.options.seed c.args.options.turns w (Err x) c.run.new.store.journal c.run.new.store.world.world) f.field-0-is f.ensures.went in
    filled_outside g.D.Disk e c.args.options w c.run.new.store c.run.new.one c.run.new.two c.in_ok-full-in-Err-Full.field-0
    (call.stands refl told told_too)
    c.run.ensures.takes
    (c.run.ensures.codes (c.worlds_are_kept.ensures.reached (g.D.Disk.seen c.args.one.now) (g.D.Disk.seen c.args.two.now) w (c.requires.stands told told_too).held))
    c.run.ensures.marks
    c.run.ensures.processes
    f.what
    f.count
    f.limit
    f.ensures.ends
    full
    broken
    c.in_ok-full-in-Err-Full.ensures

-- ---- what is kept of the disks, and counted

pub returns-in_ok-has_run-in-Ok-clause-durable : goal.returns-in_ok-has_run-in-Ok-clause-durable
returns-in_ok-has_run-in-Ok-clause-durable g c = λ unbroken told told_too.
    let s = c.in-Ok.ensures.stepped.call.stands refl told told_too in
    record { durable_one = s.durable_one; durable_two = s.durable_two }

pub returns-in_err-has_run-in-Ok-clause-durable : goal.returns-in_err-has_run-in-Ok-clause-durable
returns-in_err-has_run-in-Ok-clause-durable g c = λ unbroken told told_too.
    let s = c.in-Ok.ensures.stepped.call.stands refl told told_too in
    record { durable_one = s.durable_one; durable_two = s.durable_two }

pub returns-in_err-full-in-Err-Full-clause-durable : goal.returns-in_err-full-in-Err-Full-clause-durable
returns-in_err-full-in-Err-Full-clause-durable g c = λ unbroken told told_too.
    let f = c.in-Err-Full in
    let call = subst (λ (x : RunError). Called g.D.Disk (is_live_after {T = RunEnd} (Err x)) c.args.one.now c.args.two.now c.run.new.store c.run.new.one c.run.new.two) f.field-0-is f.ensures.stepped.call in
    let s = call.stands refl told told_too in
    record { durable_one = s.durable_one; durable_two = s.durable_two }

pub returns-in-Err-OutOfMemory-clause-durable : goal.returns-in-Err-OutOfMemory-clause-durable
returns-in-Err-OutOfMemory-clause-durable g c = λ unbroken told told_too.
    let f = c.in-Err-OutOfMemory in
    let call = subst (λ (x : RunError). Called g.D.Disk (is_live_after {T = RunEnd} (Err x)) c.args.one.now c.args.two.now c.run.new.store c.run.new.one c.run.new.two) f.field-0-is f.ensures.stepped.call in
    let s = call.stands refl told told_too in
    record { durable_one = s.durable_one; durable_two = s.durable_two }

pub returns-in_err-has_run-in-Ok-clause-tells : goal.returns-in_err-has_run-in-Ok-clause-tells
returns-in_err-has_run-in-Ok-clause-tells g c = (c.run.ensures.stepped.call.tells_one, c.run.ensures.stepped.call.tells_two)

pub returns-in_ok-has_run-in-Ok-clause-tells : goal.returns-in_ok-has_run-in-Ok-clause-tells
returns-in_ok-has_run-in-Ok-clause-tells g c = (c.run.ensures.stepped.call.tells_one, c.run.ensures.stepped.call.tells_two)

pub returns-in-Err-DiskFault-clause-tells : goal.returns-in-Err-DiskFault-clause-tells
returns-in-Err-DiskFault-clause-tells g c = (c.run.ensures.stepped.call.tells_one, c.run.ensures.stepped.call.tells_two)

pub returns-in_err-full-in-Err-Full-clause-tells : goal.returns-in_err-full-in-Err-Full-clause-tells
returns-in_err-full-in-Err-Full-clause-tells g c = (c.run.ensures.stepped.call.tells_one, c.run.ensures.stepped.call.tells_two)

pub returns-in_ok-full-in-Err-Full-clause-tells : goal.returns-in_ok-full-in-Err-Full-clause-tells
returns-in_ok-full-in-Err-Full-clause-tells g c = (c.run.ensures.stepped.call.tells_one, c.run.ensures.stepped.call.tells_two)

pub returns-in-Err-OutOfMemory-clause-tells : goal.returns-in-Err-OutOfMemory-clause-tells
returns-in-Err-OutOfMemory-clause-tells g c = (c.run.ensures.stepped.call.tells_one, c.run.ensures.stepped.call.tells_two)

pub returns-in_ok-has_run-in-Ok-clause-cause : goal.returns-in_ok-has_run-in-Ok-clause-cause
returns-in_ok-has_run-in-Ok-clause-cause g c = c.in-Ok.ensures.stepped.call.counts

pub returns-in_err-has_run-in-Ok-clause-cause : goal.returns-in_err-has_run-in-Ok-clause-cause
returns-in_err-has_run-in-Ok-clause-cause g c =
    counts_lost (g.D.Disk.faults c.args.one.now) (g.D.Disk.faults c.run.new.one) (g.D.Disk.faults c.args.two.now) (g.D.Disk.faults c.run.new.two)
    (g.D.Disk.failed c.run.new.one) (g.D.Disk.failed c.run.new.two) c.from_residual.result c.from_residual.ensures.1 c.in-Ok.ensures.stepped.call.counts

pub returns-in-Err-DiskFault-clause-cause : goal.returns-in-Err-DiskFault-clause-cause
returns-in-Err-DiskFault-clause-cause g c =
    let call = subst (λ (x : RunError). Called g.D.Disk (is_live_after {T = RunEnd} (Err x)) c.args.one.now c.args.two.now c.run.new.store c.run.new.one c.run.new.two) c.in-Err-DiskFault.field-0-is c.in-Err-DiskFault.ensures.stepped.call in
    call.counts

pub returns-in-Err-OutOfMemory-clause-cause : goal.returns-in-Err-OutOfMemory-clause-cause
returns-in-Err-OutOfMemory-clause-cause g c =
    let call = subst (λ (x : RunError). Called g.D.Disk (is_live_after {T = RunEnd} (Err x)) c.args.one.now c.args.two.now c.run.new.store c.run.new.one c.run.new.two) c.in-Err-OutOfMemory.field-0-is c.in-Err-OutOfMemory.ensures.stepped.call in
    call.counts

pub returns-in_ok-full-in-Err-Full-clause-cause : goal.returns-in_ok-full-in-Err-Full-clause-cause
returns-in_ok-full-in-Err-Full-clause-cause g c =
    let f = c.in-Err-Full in
    let call = subst (λ (x : RunError). Called g.D.Disk (is_live_after {T = RunEnd} (Err x)) c.args.one.now c.args.two.now c.run.new.store c.run.new.one c.run.new.two) f.field-0-is f.ensures.stepped.call in
    call.counts

pub returns-in_err-full-in-Err-Full-clause-cause : goal.returns-in_err-full-in-Err-Full-clause-cause
returns-in_err-full-in-Err-Full-clause-cause g c =
    let f = c.in-Err-Full in
    let call = subst (λ (x : RunError). Called g.D.Disk (is_live_after {T = RunEnd} (Err x)) c.args.one.now c.args.two.now c.run.new.store c.run.new.one c.run.new.two) f.field-0-is f.ensures.stepped.call in
    counts_lost (g.D.Disk.faults c.args.one.now) (g.D.Disk.faults c.run.new.one) (g.D.Disk.faults c.args.two.now) (g.D.Disk.faults c.run.new.two)
    (g.D.Disk.failed c.run.new.one) (g.D.Disk.failed c.run.new.two) c.from_residual-in_err-full-in-Err-Full.result c.from_residual-in_err-full-in-Err-Full.ensures.1 call.counts

-- ---- memory ran out, or a disk failed

pub returns-in_err-has_run-in-Ok-clause-broken : goal.returns-in_err-has_run-in-Ok-clause-broken
returns-in_err-has_run-in-Ok-clause-broken g c =
    let p = c.args.options in
    let w = c.args.store.now.world.world in
    let e = exchange g.T.Transport g.P.Pacer c.args.transport.now c.run.new.transport c.args.pacer.now c.run.new.pacer in
    let P : ActError → Type 0 = λ x. IsTrue (g.D.Disk.tells c.args.one.now) → IsTrue (g.D.Disk.tells c.args.two.now) → BreaksOutside g.D.Disk e p w c.run.new.one c.run.new.two (ended_by x) in
    lost_is c.from_residual.result P c.from_residual.ensures.1 (λ told told_too.
    breaks_outside g.D.Disk e p w c.run.new.store c.run.new.one c.run.new.two status.OutOfMemory (Ok c.in-Ok.end) (lost_told (Ok c.in-Ok.end) (λ is. cc))
    c.in-Ok.ensures.went c.run.ensures.takes
    (c.run.ensures.codes (c.worlds_are_kept.ensures.reached (g.D.Disk.seen c.args.one.now) (g.D.Disk.seen c.args.two.now) w (c.requires.stands told told_too).held)) c.run.ensures.marks
    (λ placed. now_pairs g.D.Disk c.args.store.now.place (AreOfProcesses (g.T.Transport.placed c.run.new.transport)) c.run.new.one c.run.new.two
    (rest_durable g.D.Disk c.args.store.now.place c.args.one.now c.args.two.now c.run.new.one c.run.new.two (c.requires.stands told told_too).durable_one
    (c.requires.stands told told_too).durable_two (c.run.ensures.stepped.moments told told_too).untouched)
    (c.run.ensures.directories placed told told_too))
    (λ is. c.in-Ok.ensures.stepped.call.stands refl told told_too))

pub returns-in_err-full-in-Err-Full-clause-broken : goal.returns-in_err-full-in-Err-Full-clause-broken
returns-in_err-full-in-Err-Full-clause-broken g c =
    let p = c.args.options in
    let w = c.args.store.now.world.world in
    let e = exchange g.T.Transport g.P.Pacer c.args.transport.now c.run.new.transport c.args.pacer.now c.run.new.pacer in
    let P : ActError → Type 0 = λ x. IsTrue (g.D.Disk.tells c.args.one.now) → IsTrue (g.D.Disk.tells c.args.two.now) → BreaksOutside g.D.Disk e p w c.run.new.one c.run.new.two (ended_by x) in
    lost_is c.from_residual-in_err-full-in-Err-Full.result P c.from_residual-in_err-full-in-Err-Full.ensures.1 (λ told told_too.
    breaks_outside g.D.Disk e p w c.run.new.store c.run.new.one c.run.new.two status.OutOfMemory (Err (run_error.Full c.in-Err-Full.what c.in-Err-Full.count c.in-Err-Full.limit)) (lost_told (Err (run_error.Full c.in-Err-Full.what c.in-Err-Full.count c.in-Err-Full.limit)) (λ is. cc))
    (subst (λ (x : RunError). e.went p.limits p.seed p.turns w (Err x) c.run.new.store.journal c.run.new.store.world.world) c.in-Err-Full.field-0-is c.in-Err-Full.ensures.went) c.run.ensures.takes
    (c.run.ensures.codes (c.worlds_are_kept.ensures.reached (g.D.Disk.seen c.args.one.now) (g.D.Disk.seen c.args.two.now) w (c.requires.stands told told_too).held)) c.run.ensures.marks
    (λ placed. now_pairs g.D.Disk c.args.store.now.place (AreOfProcesses (g.T.Transport.placed c.run.new.transport)) c.run.new.one c.run.new.two
    (rest_durable g.D.Disk c.args.store.now.place c.args.one.now c.args.two.now c.run.new.one c.run.new.two (c.requires.stands told told_too).durable_one
    (c.requires.stands told told_too).durable_two (c.run.ensures.stepped.moments told told_too).untouched)
    (c.run.ensures.directories placed told told_too))
    (λ is. (subst (λ (x : RunError). Called g.D.Disk (is_live_after {T = RunEnd} (Err x)) c.args.one.now c.args.two.now c.run.new.store c.run.new.one c.run.new.two) c.in-Err-Full.field-0-is c.in-Err-Full.ensures.stepped.call).stands refl told told_too))

pub returns-in-Err-OutOfMemory-clause-broken : goal.returns-in-Err-OutOfMemory-clause-broken
returns-in-Err-OutOfMemory-clause-broken g c =
    let p = c.args.options in
    let w = c.args.store.now.world.world in
    let e = exchange g.T.Transport g.P.Pacer c.args.transport.now c.run.new.transport c.args.pacer.now c.run.new.pacer in
    λ told told_too.
    breaks_outside g.D.Disk e p w c.run.new.store c.run.new.one c.run.new.two status.OutOfMemory (Err run_error.OutOfMemory) (lost_told (Err run_error.OutOfMemory) (λ is. cc))
    (subst (λ (x : RunError). e.went p.limits p.seed p.turns w (Err x) c.run.new.store.journal c.run.new.store.world.world) c.in-Err-OutOfMemory.field-0-is c.in-Err-OutOfMemory.ensures.went) c.run.ensures.takes
    (c.run.ensures.codes (c.worlds_are_kept.ensures.reached (g.D.Disk.seen c.args.one.now) (g.D.Disk.seen c.args.two.now) w (c.requires.stands told told_too).held)) c.run.ensures.marks
    (λ placed. now_pairs g.D.Disk c.args.store.now.place (AreOfProcesses (g.T.Transport.placed c.run.new.transport)) c.run.new.one c.run.new.two
    (rest_durable g.D.Disk c.args.store.now.place c.args.one.now c.args.two.now c.run.new.one c.run.new.two (c.requires.stands told told_too).durable_one
    (c.requires.stands told told_too).durable_two (c.run.ensures.stepped.moments told told_too).untouched)
    (c.run.ensures.directories placed told told_too))
    (λ is. (subst (λ (x : RunError). Called g.D.Disk (is_live_after {T = RunEnd} (Err x)) c.args.one.now c.args.two.now c.run.new.store c.run.new.one c.run.new.two) c.in-Err-OutOfMemory.field-0-is c.in-Err-OutOfMemory.ensures.stepped.call).stands refl told told_too)

pub returns-in-Err-DiskFault-clause-broken : goal.returns-in-Err-DiskFault-clause-broken
returns-in-Err-DiskFault-clause-broken g c =
    let p = c.args.options in
    let w = c.args.store.now.world.world in
    let e = exchange g.T.Transport g.P.Pacer c.args.transport.now c.run.new.transport c.args.pacer.now c.run.new.pacer in
    λ told told_too.
    breaks_outside g.D.Disk e p w c.run.new.store c.run.new.one c.run.new.two status.DiskFault (Err run_error.DiskFault) (fault_told (Err run_error.DiskFault) refl)
    (subst (λ (x : RunError). e.went p.limits p.seed p.turns w (Err x) c.run.new.store.journal c.run.new.store.world.world) c.in-Err-DiskFault.field-0-is c.in-Err-DiskFault.ensures.went) c.run.ensures.takes
    (c.run.ensures.codes (c.worlds_are_kept.ensures.reached (g.D.Disk.seen c.args.one.now) (g.D.Disk.seen c.args.two.now) w (c.requires.stands told told_too).held)) c.run.ensures.marks
    (λ placed. now_pairs g.D.Disk c.args.store.now.place (AreOfProcesses (g.T.Transport.placed c.run.new.transport)) c.run.new.one c.run.new.two
    (rest_durable g.D.Disk c.args.store.now.place c.args.one.now c.args.two.now c.run.new.one c.run.new.two (c.requires.stands told told_too).durable_one
    (c.requires.stands told told_too).durable_two (c.run.ensures.stepped.moments told told_too).untouched)
    (c.run.ensures.directories placed told told_too))
    (λ is. absurd (fault_no_memory is))
