use Rattle.std.proofs.Common.{ℕ, IsTrue, refl, ap, subst, ◌∙◌}
use Rattle.wc_plan.specs.Replies.{prints}
use Rattle.wc_act.proofs.Doing.{has_packed, refused_pack}
use Rattle.wc_act.proofs.Entries.{refused_durable}
use Rattle.wc_act.proofs.Leaving.{packed}
use Rattle.wc_plan.specs.declared.reply.Reply.{Reply}
use Rattle.wc_act.specs.Owed.{visit, DoneOn}
use Rattle.wc_act.specs.Rows.{pack_row}
use Rattle.wc_act.specs.Undone.{IsBeforePacking}
use Rattle.wc_act.proofs.Told.{counts_lost, counts_refused}
use Rattle.wc_act.proofs.Visiting.{AreOfPack, are_of_pack, visit_as}
use Rattle.wc_act.proofs.Unwriting.{refused_untouched}
use Rattle.wc_act.proofs.packs.pack_reply.Goals as goal

pub returns-in_err-packed_text-in-Ok-clause-kept : goal.returns-in_err-packed_text-in-Ok-clause-kept
returns-in_err-packed_text-in-Ok-clause-kept g c =
    λ told told_too.
    packed g.D.Disk g.met.D.Disk.only_now c.worlds_are_kept.ensures.reached c.worlds_are_kept.ensures.same c.args.store.now c.args.one.now c.args.two.now (c.requires.stands told told_too) c.pack.new.one c.pack.new.two
    (c.pack.ensures.moments told told_too)

pub returns-in_ok-packed_text-in-Ok-clause-does : goal.returns-in_ok-packed_text-in-Ok-clause-does
returns-in_ok-packed_text-in-Ok-clause-does g c =
    let s = c.args.store.now in
    visit_as (visit g.D.Disk c.args.one.now c.args.two.now c.pack.new.one c.pack.new.two) (AreOfPack s c.pack.new.self) (DoneOn pack_row s.world.world c.print.result)
    (has_packed s c.pack.new.self c.in-Ok.generation c.print.result c.in-Ok.ensures.packed.room c.pack.ensures.world c.in-Ok.ensures.packed.next c.in-Ok.ensures.packed.is
    (c.print.ensures ∙ ap prints c.in_ok-packed_text-in-Ok.ensures))
    (are_of_pack g.D.Disk c.args.one.now c.args.two.now c.pack.new.one c.pack.new.two s c.pack.new.self c.requires.stands c.requires.images (c.in-Ok.ensures.call.stands refl)
    c.in-Ok.ensures.packed.images (λ told told_too. (c.pack.ensures.moments told told_too).untouched) (λ told told_too. (c.in-Ok.ensures.written told told_too).1))

pub returns-in_ok-packed_text-in-Ok-clause-kept : goal.returns-in_ok-packed_text-in-Ok-clause-kept
returns-in_ok-packed_text-in-Ok-clause-kept g c =
    λ told told_too.
    packed g.D.Disk g.met.D.Disk.only_now c.worlds_are_kept.ensures.reached c.worlds_are_kept.ensures.same c.args.store.now c.args.one.now c.args.two.now (c.requires.stands told told_too) c.pack.new.one c.pack.new.two
    (c.pack.ensures.moments told told_too)

pub returns-in-Err-clause-does : goal.returns-in-Err-clause-does
returns-in-Err-clause-does g c =
    refused_pack g.D.Disk ℕ c.args.store.now c.in-Err.error c.args.one.now c.args.two.now c.pack.new.one c.pack.new.two c.refused.result c.requires.stands c.requires.images
    c.in-Err.ensures.refused c.in-Err.ensures.untouched.0 c.in-Err.ensures.untouched.1 c.refused.ensures.reply

pub returns-in-Err-clause-durable : goal.returns-in-Err-clause-durable
returns-in-Err-clause-durable g c =
    let call = c.in-Err.ensures.call in
    refused_durable g.D.Disk ℕ c.in-Err.error c.pack.new.self (IsTrue (g.D.Disk.tells c.args.one.now)) (IsTrue (g.D.Disk.tells c.args.two.now)) c.pack.new.one c.pack.new.two
    c.refused.result c.refused.ensures.cause (λ whole. call.stands whole)

pub returns-in-Err-clause-kept : goal.returns-in-Err-clause-kept
returns-in-Err-clause-kept g c =
    λ told told_too.
    packed g.D.Disk g.met.D.Disk.only_now c.worlds_are_kept.ensures.reached c.worlds_are_kept.ensures.same c.args.store.now c.args.one.now c.args.two.now (c.requires.stands told told_too) c.pack.new.one c.pack.new.two
    (c.pack.ensures.moments told told_too)

pub returns-in_ok-packed_text-in-Ok-clause-untouched : goal.returns-in_ok-packed_text-in-Ok-clause-untouched
returns-in_ok-packed_text-in-Ok-clause-untouched g c = λ ends. absurd (subst (λ (r : Reply). IsBeforePacking r.status) c.print.ensures ends)

pub returns-in-Err-clause-untouched : goal.returns-in-Err-clause-untouched
returns-in-Err-clause-untouched g c =
    refused_untouched g.D.Disk ℕ IsBeforePacking (λ never. never) c.in-Err.error c.args.one.now c.args.two.now c.pack.new.one c.pack.new.two c.in-Err.ensures.untouched.0
    c.in-Err.ensures.untouched.1 c.refused.result c.refused.ensures.fault

-- ---- what is kept of the disks, and counted

pub returns-in_err-packed_text-in-Ok-clause-durable : goal.returns-in_err-packed_text-in-Ok-clause-durable
returns-in_err-packed_text-in-Ok-clause-durable g c = λ unbroken told told_too.
    let s = c.in-Ok.ensures.call.stands refl told told_too in
    record { durable_one = s.durable_one; durable_two = s.durable_two }

pub returns-in_ok-packed_text-in-Ok-clause-durable : goal.returns-in_ok-packed_text-in-Ok-clause-durable
returns-in_ok-packed_text-in-Ok-clause-durable g c = λ unbroken told told_too.
    let s = c.in-Ok.ensures.call.stands refl told told_too in
    record { durable_one = s.durable_one; durable_two = s.durable_two }

pub returns-in_err-packed_text-in-Ok-clause-tells : goal.returns-in_err-packed_text-in-Ok-clause-tells
returns-in_err-packed_text-in-Ok-clause-tells g c = (c.in-Ok.ensures.call.tells_one, c.in-Ok.ensures.call.tells_two)

pub returns-in_err-packed_text-in-Ok-clause-cause : goal.returns-in_err-packed_text-in-Ok-clause-cause
returns-in_err-packed_text-in-Ok-clause-cause g c =
    counts_lost (g.D.Disk.faults c.args.one.now) (g.D.Disk.faults c.pack.new.one) (g.D.Disk.faults c.args.two.now) (g.D.Disk.faults c.pack.new.two)
    (g.D.Disk.failed c.pack.new.one) (g.D.Disk.failed c.pack.new.two) c.from_residual.result c.from_residual.ensures.1 c.in-Ok.ensures.call.counts

pub returns-in_ok-packed_text-in-Ok-clause-tells : goal.returns-in_ok-packed_text-in-Ok-clause-tells
returns-in_ok-packed_text-in-Ok-clause-tells g c = (c.in-Ok.ensures.call.tells_one, c.in-Ok.ensures.call.tells_two)

pub returns-in_ok-packed_text-in-Ok-clause-cause : goal.returns-in_ok-packed_text-in-Ok-clause-cause
returns-in_ok-packed_text-in-Ok-clause-cause g c = c.in-Ok.ensures.call.counts

pub returns-in-Err-clause-tells : goal.returns-in-Err-clause-tells
returns-in-Err-clause-tells g c = (c.in-Err.ensures.call.tells_one, c.in-Err.ensures.call.tells_two)

pub returns-in-Err-clause-cause : goal.returns-in-Err-clause-cause
returns-in-Err-clause-cause g c =
    counts_refused (g.D.Disk.faults c.args.one.now) (g.D.Disk.faults c.pack.new.one) (g.D.Disk.faults c.args.two.now) (g.D.Disk.faults c.pack.new.two)
    (g.D.Disk.failed c.pack.new.one) (g.D.Disk.failed c.pack.new.two) ℕ c.in-Err.error c.refused.result c.refused.ensures.cause c.in-Err.ensures.call.counts
