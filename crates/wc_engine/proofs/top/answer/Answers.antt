use Rattle.std.proofs.Common.{◌≡◌, IsTrue, inl, inr, refl, subst}
use Rattle.wc_cli.specs.Words.{command_of}
use Rattle.wc_act.specs.Aborted.{ServesAborted}
use Rattle.wc_act.specs.Counts.{status_of}
use Rattle.wc_act.specs.Exchanges.{exchange}
use Rattle.wc_act.specs.Outside.{turns_of}
use Rattle.wc_act.specs.Undone.{IsBeforeTurns}
use Rattle.wc_plan.specs.Plans.{Plans}
use Rattle.wc_plan.specs.declared.deed.Plan.{Plan}
use Rattle.wc_plan.specs.declared.deed.Plan.TheVariants as plan
use Rattle.wc_plan.specs.declared.reply.Reply.{Reply}
use Rattle.wc_act.specs.declared.error.ReplyError.{ReplyError}
use Rattle.wc_act.proofs.Broken.{each_error}
use Rattle.wc_act.proofs.Answered.{act_aborts, plan_counts, plan_no_fault, told_no_fault, act_counts, act_no_refusal, act_ends, act_undone}
use Rattle.wc_act.proofs.Exchanged.{asked_by, asked_none}
use Rattle.wc_act.proofs.Moments.{made, made_unasked}
use Rattle.wc_act.proofs.Unwriting.{none_asked}
use Rattle.wc_act.proofs.Idle.{plan_idle}
use Rattle.wc_engine.proofs.top.answer.Goals as goal

-- ---- there is no plan

pub returns-in_err-reply-clause-counts : goal.returns-in_err-reply-clause-counts
returns-in_err-reply-clause-counts g c =
    plan_counts Plan c.from_residual.result c.in_err-reply.field-0.0 (g.R.Shelf.faults c.args.shelf.now) (g.R.Shelf.faults c.plan.new.shelf) (g.D.Disk.faults c.args.one.now) (g.D.Disk.faults c.args.two.now)
    c.args.one.now c.args.two.now (g.R.Shelf.failed c.plan.new.shelf) (g.D.Disk.failed c.args.one.now) (g.D.Disk.failed c.args.two.now)
    c.from_residual.ensures c.in_err-reply.ensures.counts

pub returns-in_err-reply-clause-unasked : goal.returns-in_err-reply-clause-unasked
returns-in_err-reply-clause-unasked g c = λ none. (refl, refl, plan_no_fault c.from_residual.result c.in_err-reply.field-0.0 c.from_residual.ensures)

pub returns-in_err-reply-clause-undone : goal.returns-in_err-reply-clause-undone
returns-in_err-reply-clause-undone g c = λ ends told told_too. none_asked g.D.Disk g.met.D.Disk.only_now c.args.one.now c.args.two.now

pub returns-in_err-reply-clause-made : goal.returns-in_err-reply-clause-made
returns-in_err-reply-clause-made g c =
    λ told told_too.
    let e = exchange g.T.Transport g.P.Pacer c.args.transport.now c.args.transport.now c.args.pacer.now c.args.pacer.now in
    made_unasked g.D.Disk g.met.D.Disk.only_now g.met.D.Disk.counts_now (g.R.Shelf.contents c.args.shelf.now) c.args.words.now e c.args.one.now c.args.two.now

pub returns-in_err-reply-clause-asked : goal.returns-in_err-reply-clause-asked
returns-in_err-reply-clause-asked g c = asked_none g.T.Transport (turns_of (command_of c.args.words.now)) c.args.transport.now

pub returns-in_err-reply-clause-broken : goal.returns-in_err-reply-clause-broken
returns-in_err-reply-clause-broken g c =
    let one = c.args.one.now in
    let two = c.args.two.now in
    let e = exchange g.T.Transport g.P.Pacer c.args.transport.now c.args.transport.now c.args.pacer.now c.args.pacer.now in
    let Still : Type 0 = (c.args.transport.now ≡ c.args.transport.now) × (c.args.pacer.now ≡ c.args.pacer.now) in
    let P : ReplyError → Type 0 = λ x. IsTrue (g.D.Disk.tells one) → IsTrue (g.D.Disk.tells two)
    → ServesAborted g.D.Disk (g.R.Shelf.contents c.args.shelf.now) c.args.words.now e one two one two (status_of c.from_residual.result) Still in
    each_error c.from_residual.result P (λ x told told_too. inl (none_asked g.D.Disk g.met.D.Disk.only_now one two, (refl, refl)))

-- ---- a reply is told

pub returns-in-Reply-clause-owed : goal.returns-in-Reply-clause-owed
returns-in-Reply-clause-owed g c = (
  plan.Reply c.in-Reply.reply,
  subst (λ (p : Plan). Plans (g.R.Shelf.contents c.args.shelf.now) (command_of c.args.words.now) p) c.in-Reply.is c.in_ok-reply.ensures.plans,
  (refl, refl),
)

pub returns-in-Reply-clause-unasked : goal.returns-in-Reply-clause-unasked
returns-in-Reply-clause-unasked g c =
    λ none. (
      refl,
      refl,
      told_no_fault (g.R.Shelf.contents c.args.shelf.now) c.args.words.now c.in-Reply.reply
          (subst (λ (p : Plan). Plans (g.R.Shelf.contents c.args.shelf.now) (command_of c.args.words.now) p) c.in-Reply.is c.in_ok-reply.ensures.plans),
    )

pub returns-in-Reply-clause-undone : goal.returns-in-Reply-clause-undone
returns-in-Reply-clause-undone g c = λ ends told told_too. none_asked g.D.Disk g.met.D.Disk.only_now c.args.one.now c.args.two.now

pub returns-in-Reply-clause-made : goal.returns-in-Reply-clause-made
returns-in-Reply-clause-made g c =
    λ told told_too.
    let e = exchange g.T.Transport g.P.Pacer c.args.transport.now c.args.transport.now c.args.pacer.now c.args.pacer.now in
    made_unasked g.D.Disk g.met.D.Disk.only_now g.met.D.Disk.counts_now (g.R.Shelf.contents c.args.shelf.now) c.args.words.now e c.args.one.now c.args.two.now

pub returns-in-Reply-clause-durable : goal.returns-in-Reply-clause-durable
returns-in-Reply-clause-durable g c =
    λ needs done told told_too.
    absurd (needs c.in-Reply.reply (subst (λ (p : Plan). Plans (g.R.Shelf.contents c.args.shelf.now) (command_of c.args.words.now) p) c.in-Reply.is c.in_ok-reply.ensures.plans) done)

pub returns-in-Reply-clause-asked : goal.returns-in-Reply-clause-asked
returns-in-Reply-clause-asked g c = asked_none g.T.Transport (turns_of (command_of c.args.words.now)) c.args.transport.now

pub returns-in-Reply-clause-outside : goal.returns-in-Reply-clause-outside
returns-in-Reply-clause-outside g c =
    λ needs done told told_too.
    absurd (needs c.in-Reply.reply (subst (λ (p : Plan). Plans (g.R.Shelf.contents c.args.shelf.now) (command_of c.args.words.now) p) c.in-Reply.is c.in_ok-reply.ensures.plans) done)

-- ---- a deed has no reply

pub returns-in_err-act-in-On-clause-counts : goal.returns-in_err-act-in-On-clause-counts
returns-in_err-act-in-On-clause-counts g c =
    act_counts Reply c.from_residual-in_err-act-in-On.result c.in_err-act-in-On.field-0.0 (g.R.Shelf.faults c.args.shelf.now) (g.R.Shelf.faults c.plan.new.shelf)
    (g.D.Disk.faults c.args.one.now) (g.D.Disk.faults c.act.new.one) (g.D.Disk.faults c.args.two.now) (g.D.Disk.faults c.act.new.two) c.args.one.now c.act.new.one c.args.two.now c.act.new.two
    (g.R.Shelf.failed c.plan.new.shelf) (g.D.Disk.failed c.act.new.one) (g.D.Disk.failed c.act.new.two)
    c.from_residual-in_err-act-in-On.ensures c.in_ok-reply.ensures.counts c.in_err-act-in-On.ensures.cause

pub returns-in_err-act-in-On-clause-unasked : goal.returns-in_err-act-in-On-clause-unasked
returns-in_err-act-in-On-clause-unasked g c =
    λ none. absurd (none c.in-On.deed (subst (λ (p : Plan). Plans (g.R.Shelf.contents c.args.shelf.now) (command_of c.args.words.now) p) c.in-On.is c.in_ok-reply.ensures.plans))

pub returns-in_err-act-in-On-clause-early : goal.returns-in_err-act-in-On-clause-early
returns-in_err-act-in-On-clause-early g c =
    λ cause is none. absurd (act_no_refusal c.from_residual-in_err-act-in-On.result c.in_err-act-in-On.field-0.0 cause c.from_residual-in_err-act-in-On.ensures is)

pub returns-in_err-act-in-On-clause-undone : goal.returns-in_err-act-in-On-clause-undone
returns-in_err-act-in-On-clause-undone g c =
    λ ends.
    let plans = subst (λ (p : Plan). Plans (g.R.Shelf.contents c.args.shelf.now) (command_of c.args.words.now) p) c.in-On.is c.in_ok-reply.ensures.plans in
    c.in_err-act-in-On.ensures.undone (act_undone (g.R.Shelf.contents c.args.shelf.now) c.args.words.now c.in-On.deed c.from_residual-in_err-act-in-On.result c.in_err-act-in-On.field-0.0
    c.from_residual-in_err-act-in-On.ensures plans ends)

pub returns-in_err-act-in-On-clause-made : goal.returns-in_err-act-in-On-clause-made
returns-in_err-act-in-On-clause-made g c =
    λ told told_too.
    let plans = subst (λ (p : Plan). Plans (g.R.Shelf.contents c.args.shelf.now) (command_of c.args.words.now) p) c.in-On.is c.in_ok-reply.ensures.plans in
    let e = exchange g.T.Transport g.P.Pacer c.args.transport.now c.act.new.transport c.args.pacer.now c.act.new.pacer in
    made g.D.Disk g.met.D.Disk.only_now g.met.D.Disk.counts_now (g.R.Shelf.contents c.args.shelf.now) c.args.words.now e c.in-On.deed c.args.one.now c.args.two.now c.act.new.one c.act.new.two plans
    (c.act.ensures.kept told told_too)

pub returns-in_err-act-in-On-clause-idle : goal.returns-in_err-act-in-On-clause-idle
returns-in_err-act-in-On-clause-idle g c =
    λ none.
    let plans = subst (λ (p : Plan). Plans (g.R.Shelf.contents c.args.shelf.now) (command_of c.args.words.now) p) c.in-On.is c.in_ok-reply.ensures.plans in
    c.in_err-act-in-On.ensures.still (inl (plan_idle (g.R.Shelf.contents c.args.shelf.now) (command_of c.args.words.now) (plan.On c.in-On.deed) plans none))

pub returns-in_err-act-in-On-clause-unbegun : goal.returns-in_err-act-in-On-clause-unbegun
returns-in_err-act-in-On-clause-unbegun g c =
    λ ends. c.in_err-act-in-On.ensures.still (inr (act_ends IsBeforeTurns c.from_residual-in_err-act-in-On.result c.in_err-act-in-On.field-0.0 c.from_residual-in_err-act-in-On.ensures ends))

pub returns-in_err-act-in-On-clause-asked : goal.returns-in_err-act-in-On-clause-asked
returns-in_err-act-in-On-clause-asked g c =
    let plans = subst (λ (p : Plan). Plans (g.R.Shelf.contents c.args.shelf.now) (command_of c.args.words.now) p) c.in-On.is c.in_ok-reply.ensures.plans in
    asked_by g.T.Transport (g.R.Shelf.contents c.args.shelf.now) (command_of c.args.words.now) c.in-On.deed c.args.transport.now c.act.new.transport plans c.act.ensures.asked
    (λ idle. (c.act.ensures.still (inl idle)).0)

pub returns-in_err-act-in-On-clause-broken : goal.returns-in_err-act-in-On-clause-broken
returns-in_err-act-in-On-clause-broken g c =
    let one = c.args.one.now in
    let two = c.args.two.now in
    let e = exchange g.T.Transport g.P.Pacer c.args.transport.now c.act.new.transport c.args.pacer.now c.act.new.pacer in
    let plans = subst (λ (p : Plan). Plans (g.R.Shelf.contents c.args.shelf.now) (command_of c.args.words.now) p) c.in-On.is c.in_ok-reply.ensures.plans in
    act_aborts g.D.Disk (g.R.Shelf.contents c.args.shelf.now) c.args.words.now e c.in-On.deed one two c.act.new.one c.act.new.two
    (IsTrue (g.D.Disk.tells one)) (IsTrue (g.D.Disk.tells two)) ((c.act.new.transport ≡ c.args.transport.now) × (c.act.new.pacer ≡ c.args.pacer.now))
    c.from_residual-in_err-act-in-On.result c.in_err-act-in-On.field-0.0 c.from_residual-in_err-act-in-On.ensures plans c.in_err-act-in-On.ensures.broken

-- ---- a deed has its reply

pub returns-in_ok-act-in-On-clause-owed : goal.returns-in_ok-act-in-On-clause-owed
returns-in_ok-act-in-On-clause-owed g c = (
  plan.On c.in-On.deed,
  subst (λ (p : Plan). Plans (g.R.Shelf.contents c.args.shelf.now) (command_of c.args.words.now) p) c.in-On.is c.in_ok-reply.ensures.plans,
  c.in_ok-act-in-On.ensures.does,
)

pub returns-in_ok-act-in-On-clause-unasked : goal.returns-in_ok-act-in-On-clause-unasked
returns-in_ok-act-in-On-clause-unasked g c =
    λ none. absurd (none c.in-On.deed (subst (λ (p : Plan). Plans (g.R.Shelf.contents c.args.shelf.now) (command_of c.args.words.now) p) c.in-On.is c.in_ok-reply.ensures.plans))

pub returns-in_ok-act-in-On-clause-early : goal.returns-in_ok-act-in-On-clause-early
returns-in_ok-act-in-On-clause-early g c =
    λ cause is none.
    let plans = subst (λ (p : Plan). Plans (g.R.Shelf.contents c.args.shelf.now) (command_of c.args.words.now) p) c.in-On.is c.in_ok-reply.ensures.plans in
    let does = c.in_ok-act-in-On.ensures.does in
    absurd (none c.in-On.deed plans c.in_ok-act-in-On.field-0 does.before does.after does.are is)

pub returns-in_ok-act-in-On-clause-undone : goal.returns-in_ok-act-in-On-clause-undone
returns-in_ok-act-in-On-clause-undone g c =
    λ ends. c.in_ok-act-in-On.ensures.undone (ends c.in-On.deed (subst (λ (p : Plan). Plans (g.R.Shelf.contents c.args.shelf.now) (command_of c.args.words.now) p) c.in-On.is c.in_ok-reply.ensures.plans))

pub returns-in_ok-act-in-On-clause-made : goal.returns-in_ok-act-in-On-clause-made
returns-in_ok-act-in-On-clause-made g c =
    λ told told_too.
    let plans = subst (λ (p : Plan). Plans (g.R.Shelf.contents c.args.shelf.now) (command_of c.args.words.now) p) c.in-On.is c.in_ok-reply.ensures.plans in
    let e = exchange g.T.Transport g.P.Pacer c.args.transport.now c.act.new.transport c.args.pacer.now c.act.new.pacer in
    made g.D.Disk g.met.D.Disk.only_now g.met.D.Disk.counts_now (g.R.Shelf.contents c.args.shelf.now) c.args.words.now e c.in-On.deed c.args.one.now c.args.two.now c.act.new.one c.act.new.two plans
    (c.act.ensures.kept told told_too)

pub returns-in_ok-act-in-On-clause-durable : goal.returns-in_ok-act-in-On-clause-durable
returns-in_ok-act-in-On-clause-durable g c = λ needs done told told_too. c.in_ok-act-in-On.ensures.durable done told told_too

pub returns-in_ok-act-in-On-clause-idle : goal.returns-in_ok-act-in-On-clause-idle
returns-in_ok-act-in-On-clause-idle g c =
    λ none.
    let plans = subst (λ (p : Plan). Plans (g.R.Shelf.contents c.args.shelf.now) (command_of c.args.words.now) p) c.in-On.is c.in_ok-reply.ensures.plans in
    c.in_ok-act-in-On.ensures.still (inl (plan_idle (g.R.Shelf.contents c.args.shelf.now) (command_of c.args.words.now) (plan.On c.in-On.deed) plans none))

pub returns-in_ok-act-in-On-clause-unbegun : goal.returns-in_ok-act-in-On-clause-unbegun
returns-in_ok-act-in-On-clause-unbegun g c = λ ends. c.in_ok-act-in-On.ensures.still (inr ends)

pub returns-in_ok-act-in-On-clause-asked : goal.returns-in_ok-act-in-On-clause-asked
returns-in_ok-act-in-On-clause-asked g c =
    let plans = subst (λ (p : Plan). Plans (g.R.Shelf.contents c.args.shelf.now) (command_of c.args.words.now) p) c.in-On.is c.in_ok-reply.ensures.plans in
    asked_by g.T.Transport (g.R.Shelf.contents c.args.shelf.now) (command_of c.args.words.now) c.in-On.deed c.args.transport.now c.act.new.transport plans c.act.ensures.asked
    (λ idle. (c.act.ensures.still (inl idle)).0)

pub returns-in_ok-act-in-On-clause-outside : goal.returns-in_ok-act-in-On-clause-outside
returns-in_ok-act-in-On-clause-outside g c =
    λ needs done told told_too. (
      c.in-On.deed,
      subst (λ (p : Plan). Plans (g.R.Shelf.contents c.args.shelf.now) (command_of c.args.words.now) p) c.in-On.is c.in_ok-reply.ensures.plans,
      c.in_ok-act-in-On.ensures.outside done told told_too,
    )
