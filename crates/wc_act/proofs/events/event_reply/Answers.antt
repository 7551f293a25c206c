use Rattle.std.proofs.Common.{◌≡◌, IsTrue, refl, ap, subst, ◌∙◌}
use Rattle.wc_state.specs.declared.record.Limits.{Limits}
use Rattle.wc_world.specs.World.{World}
use Rattle.wc_store.specs.Refusals.{RefusesCommit}
use Rattle.wc_store.specs.Stepped.{IsCommitted}
use Rattle.wc_store.specs.Stores.{IsLonger}
use Rattle.wc_act.specs.declared.events.Entry.TheVariants as entry
use Rattle.wc_plan.specs.declared.reply.Reply.{Reply}
use Rattle.wc_act.specs.Entries.{IsEntryOf}
use Rattle.wc_act.specs.Events.{MayHappen, TellsAlone}
use Rattle.wc_plan.specs.Replies.{prints}
use Rattle.wc_act.specs.Owed.{visit, DoneOn}
use Rattle.wc_act.specs.Rows.{event_row}
use Rattle.wc_act.specs.StoreDeeds.{Images}
use Rattle.wc_act.specs.Undone.{IsBeforeStoring}
use Rattle.wc_act.proofs.Entries.{has_entered, not_yet, refused_durable, refused_entry, stays_alone, then_made}
use Rattle.wc_act.proofs.Leaving.{standing, committed}
use Rattle.wc_act.proofs.Told.{counts_refused}
use Rattle.wc_act.proofs.Visiting.{AreOfStores, AreStill, are_of_stores, are_still, visit_as}
use Rattle.wc_act.proofs.Unwriting.{refused_untouched}
use Rattle.wc_act.proofs.events.event_reply.Goals as goal

-- ---- memory ran out

pub returns-in_err-reply-clause-kept : goal.returns-in_err-reply-clause-kept
returns-in_err-reply-clause-kept g c =
    λ told told_too.
    standing g.D.Disk g.met.D.Disk.only_now c.worlds_are_kept.ensures.reached c.worlds_are_kept.ensures.same c.args.store.now c.args.one.now c.args.two.now (c.requires.stands told told_too)
    (MayHappen c.args.asked)
    (λ goes.
    let s = c.args.store.now in
    let seen : Images = (g.D.Disk.seen c.args.one.now, g.D.Disk.seen c.args.two.now) in
    not_yet c.args.asked seen seen s.world.world s.journal s.journal goes refl)

pub returns-in_err-reply-clause-durable : goal.returns-in_err-reply-clause-durable
returns-in_err-reply-clause-durable g c = λ unbroken told told_too. let s = c.requires.stands told told_too in record { durable_one = s.durable_one; durable_two = s.durable_two }

-- ---- nothing is stored

pub returns-in-Reply-clause-does : goal.returns-in-Reply-clause-does
returns-in-Reply-clause-does g c =
    let s = c.args.store.now in
    let w : c.world.result.now.world ≡ s.world.world = λ i. (c.world.ensures i).world in
    visit_as (visit g.D.Disk c.args.one.now c.args.two.now c.args.one.now c.args.two.now) (AreStill s) (DoneOn (event_row c.args.asked) s.world.world c.in-Reply.reply)
    (stays_alone c.args.asked s c.in-Reply.reply
    (subst (λ (v : World). TellsAlone c.args.asked v c.in-Reply.reply) w (subst (IsEntryOf c.args.asked c.world.result.now.world) c.in-Reply.is c.in_ok-reply.ensures)))
    (are_still g.D.Disk c.args.one.now c.args.two.now c.args.one.now c.args.two.now s c.requires.stands c.requires.images refl refl)

pub returns-in-Reply-clause-kept : goal.returns-in-Reply-clause-kept
returns-in-Reply-clause-kept g c =
    λ told told_too.
    standing g.D.Disk g.met.D.Disk.only_now c.worlds_are_kept.ensures.reached c.worlds_are_kept.ensures.same c.args.store.now c.args.one.now c.args.two.now (c.requires.stands told told_too)
    (MayHappen c.args.asked)
    (λ goes.
    let s = c.args.store.now in
    let seen : Images = (g.D.Disk.seen c.args.one.now, g.D.Disk.seen c.args.two.now) in
    not_yet c.args.asked seen seen s.world.world s.journal s.journal goes refl)

pub returns-in-Reply-clause-durable : goal.returns-in-Reply-clause-durable
returns-in-Reply-clause-durable g c = λ unbroken told told_too. let s = c.requires.stands told told_too in record { durable_one = s.durable_one; durable_two = s.durable_two }

-- ---- changes are stored

pub returns-in-Ok-clause-does : goal.returns-in-Ok-clause-does
returns-in-Ok-clause-does g c =
    let s = c.args.store.now in
    let a = c.args.asked in
    let cs = c.in-Commits.changes in
    let w : c.world.result.now.world ≡ s.world.world = λ i. (c.world.ensures i).world in
    let e = subst (λ (v : World). IsEntryOf a v (entry.Commits cs c.in-Commits.line)) w (subst (IsEntryOf a c.world.result.now.world) c.in-Commits.is c.in_ok-reply.ensures) in
    let step = c.in-Ok.ensures.stepped in
    visit_as (visit g.D.Disk c.args.one.now c.args.two.now c.commit.new.one c.commit.new.two) (AreOfStores s c.commit.new.self) (DoneOn (event_row a) s.world.world c.print.result)
    (has_entered a s c.commit.new.self cs c.print.result e.0
    (subst (λ (l : Limits). IsCommitted l cs s c.commit.new.self.world.world c.commit.new.self.journal) c.limits_of-limits.ensures.value c.in-Ok.ensures.done) step.place
    (c.print.ensures ∙ ap prints e.1))
    (are_of_stores g.D.Disk c.args.one.now c.args.two.now c.commit.new.one c.commit.new.two s c.commit.new.self c.requires.stands c.requires.images (step.call.stands refl)
    step.images (λ told told_too. (step.moments told told_too).untouched))

pub returns-in-Ok-clause-kept : goal.returns-in-Ok-clause-kept
returns-in-Ok-clause-kept g c =
    λ told told_too.
    let s = c.args.store.now in
    let a = c.args.asked in
    let cs = c.in-Commits.changes in
    let w : c.world.result.now.world ≡ s.world.world = λ i. (c.world.ensures i).world in
    let e = subst (λ (v : World). IsEntryOf a v (entry.Commits cs c.in-Commits.line)) w (subst (IsEntryOf a c.world.result.now.world) c.in-Commits.is c.in_ok-reply.ensures) in
    committed g.D.Disk g.met.D.Disk.only_now c.worlds_are_kept.ensures.reached c.worlds_are_kept.ensures.same s c.args.one.now c.args.two.now (c.requires.stands told told_too)
    (MayHappen a) c.limits_of-limits.result cs c.commit.new.one c.commit.new.two
    (λ journal images goes same. not_yet a (g.D.Disk.seen c.args.one.now, g.D.Disk.seen c.args.two.now) images s.world.world s.journal journal goes same)
    (λ journal images goes longer.
    then_made a (g.D.Disk.seen c.args.one.now, g.D.Disk.seen c.args.two.now) images s.world.world cs s.journal journal e.0 goes
    (subst (λ (l : Limits). IsLonger l s.journal cs journal) c.limits_of-limits.ensures.value longer))
    e.0.keeps (c.commit.ensures.stepped.moments told told_too)

pub returns-in-Ok-clause-untouched : goal.returns-in-Ok-clause-untouched
returns-in-Ok-clause-untouched g c = λ ends. absurd (subst (λ (r : Reply). IsBeforeStoring r.status) c.print.ensures ends)

-- ---- the commit is refused

pub returns-in-Err-clause-does : goal.returns-in-Err-clause-does
returns-in-Err-clause-does g c =
    let s = c.args.store.now in
    let a = c.args.asked in
    let cs = c.in-Commits.changes in
    let w : c.world.result.now.world ≡ s.world.world = λ i. (c.world.ensures i).world in
    let e = subst (λ (v : World). IsEntryOf a v (entry.Commits cs c.in-Commits.line)) w (subst (IsEntryOf a c.world.result.now.world) c.in-Commits.is c.in_ok-reply.ensures) in
    refused_entry g.D.Disk a s cs c.in-Err.error c.args.one.now c.args.two.now c.commit.new.one c.commit.new.two c.refused.result c.requires.stands c.requires.images e.0
    (subst (λ (l : Limits). RefusesCommit s.journal l s.world.world cs c.in-Err.error) c.limits_of-limits.ensures.value c.in-Err.ensures.refused)
    c.in-Err.ensures.untouched.0 c.in-Err.ensures.untouched.1 c.refused.ensures.reply

pub returns-in-Err-clause-kept : goal.returns-in-Err-clause-kept
returns-in-Err-clause-kept g c =
    λ told told_too.
    let s = c.args.store.now in
    let a = c.args.asked in
    let cs = c.in-Commits.changes in
    let w : c.world.result.now.world ≡ s.world.world = λ i. (c.world.ensures i).world in
    let e = subst (λ (v : World). IsEntryOf a v (entry.Commits cs c.in-Commits.line)) w (subst (IsEntryOf a c.world.result.now.world) c.in-Commits.is c.in_ok-reply.ensures) in
    committed g.D.Disk g.met.D.Disk.only_now c.worlds_are_kept.ensures.reached c.worlds_are_kept.ensures.same s c.args.one.now c.args.two.now (c.requires.stands told told_too)
    (MayHappen a) c.limits_of-limits.result cs c.commit.new.one c.commit.new.two
    (λ journal images goes same. not_yet a (g.D.Disk.seen c.args.one.now, g.D.Disk.seen c.args.two.now) images s.world.world s.journal journal goes same)
    (λ journal images goes longer.
    then_made a (g.D.Disk.seen c.args.one.now, g.D.Disk.seen c.args.two.now) images s.world.world cs s.journal journal e.0 goes
    (subst (λ (l : Limits). IsLonger l s.journal cs journal) c.limits_of-limits.ensures.value longer))
    e.0.keeps (c.commit.ensures.stepped.moments told told_too)

pub returns-in-Err-clause-durable : goal.returns-in-Err-clause-durable
returns-in-Err-clause-durable g c =
    let call = c.in-Err.ensures.stepped.call in
    refused_durable g.D.Disk (Unit {0}) c.in-Err.error c.commit.new.self (IsTrue (g.D.Disk.tells c.args.one.now)) (IsTrue (g.D.Disk.tells c.args.two.now)) c.commit.new.one c.commit.new.two
    c.refused.result c.refused.ensures.cause (λ whole. call.stands whole)

pub returns-in-Err-clause-untouched : goal.returns-in-Err-clause-untouched
returns-in-Err-clause-untouched g c =
    refused_untouched g.D.Disk (Unit {0}) IsBeforeStoring (λ never. never) c.in-Err.error c.args.one.now c.args.two.now c.commit.new.one c.commit.new.two c.in-Err.ensures.untouched.0
    c.in-Err.ensures.untouched.1 c.refused.result c.refused.ensures.fault

-- ---- what is kept of the disks, and counted

pub returns-in-Ok-clause-durable : goal.returns-in-Ok-clause-durable
returns-in-Ok-clause-durable g c = λ unbroken told told_too.
    let s = c.in-Ok.ensures.stepped.call.stands refl told told_too in
    record { durable_one = s.durable_one; durable_two = s.durable_two }

pub returns-in-Ok-clause-tells : goal.returns-in-Ok-clause-tells
returns-in-Ok-clause-tells g c = (c.in-Ok.ensures.stepped.call.tells_one, c.in-Ok.ensures.stepped.call.tells_two)

pub returns-in-Ok-clause-cause : goal.returns-in-Ok-clause-cause
returns-in-Ok-clause-cause g c = c.in-Ok.ensures.stepped.call.counts

pub returns-in-Err-clause-tells : goal.returns-in-Err-clause-tells
returns-in-Err-clause-tells g c = (c.in-Err.ensures.stepped.call.tells_one, c.in-Err.ensures.stepped.call.tells_two)

pub returns-in-Err-clause-cause : goal.returns-in-Err-clause-cause
returns-in-Err-clause-cause g c =
    counts_refused (g.D.Disk.faults c.args.one.now) (g.D.Disk.faults c.commit.new.one) (g.D.Disk.faults c.args.two.now) (g.D.Disk.faults c.commit.new.two)
    (g.D.Disk.failed c.commit.new.one) (g.D.Disk.failed c.commit.new.two) (Unit {0}) c.in-Err.error c.refused.result c.refused.ensures.cause c.in-Err.ensures.stepped.call.counts
