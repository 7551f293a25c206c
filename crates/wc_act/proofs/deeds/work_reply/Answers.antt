use Rattle.std.proofs.Common.{◌≡◌, Bool, IsTrue, inl, refl, sym, subst}
use Rattle.std.proofs.lemmas.Result.{IfOk-weaker}
use Rattle.wc_act.specs.Aborted.{Aborts}
use Rattle.wc_act.specs.Exchanges.{exchange}
use Rattle.wc_act.specs.Opened.{HasNoWorld, Opens, IsToldUndone}
use Rattle.wc_act.specs.Owed.{visit, Done}
use Rattle.wc_act.specs.Outside.{ActsOutside, WorksOutside}
use Rattle.wc_act.specs.Undone.{ended_by}
use Rattle.wc_act.specs.declared.error.ActError.{ActError}
use Rattle.wc_act.specs.Statuses.{IsDoneOrFull}
use Rattle.wc_act.specs.Rows.{row, work_row}
use Rattle.wc_act.specs.StoreDeeds.{Images}
use Rattle.wc_plan.specs.declared.deed.Deed.TheVariants as deed
use Rattle.wc_act.specs.declared.opened.Opened.{Opened}
use Rattle.wc_plan.specs.declared.reply.Reply.{Reply}
use Rattle.wc_act.proofs.Broken.{done_durable, each_error, opened_aborts}
use Rattle.wc_act.proofs.Doing.{held_before, goes_does, no_world}
use Rattle.wc_act.proofs.Exchanged.{work_unasked}
use Rattle.wc_act.proofs.Leaving.{goes_on, unwritten}
use Rattle.wc_act.proofs.Unwriting.{then_untouched}
use Rattle.wc_act.proofs.Visiting.{visit_as}
use Rattle.wc_act.proofs.deeds.work_reply.Goals as goal

pub returns-in_err-reply-clause-kept : goal.returns-in_err-reply-clause-kept
returns-in_err-reply-clause-kept g c =
    λ told told_too.
    let e = exchange g.T.Transport g.P.Pacer c.args.transport.now c.args.transport.now c.args.pacer.now c.args.pacer.now in
    unwritten g.D.Disk g.met.D.Disk.only_now g.met.D.Disk.counts_now (λ v journal. ⊥) ((work_row c.args.work).makes e) c.args.one.now c.args.two.now c.open_store.new.one c.open_store.new.two
    c.open_store.ensures.any_moment_one c.open_store.ensures.any_moment_two

pub returns-in-Reply-clause-kept : goal.returns-in-Reply-clause-kept
returns-in-Reply-clause-kept g c =
    λ told told_too.
    let e = exchange g.T.Transport g.P.Pacer c.args.transport.now c.args.transport.now c.args.pacer.now c.args.pacer.now in
    unwritten g.D.Disk g.met.D.Disk.only_now g.met.D.Disk.counts_now (λ v journal. ⊥) ((work_row c.args.work).makes e) c.args.one.now c.args.two.now c.open_store.new.one c.open_store.new.two
    c.open_store.ensures.any_moment_one c.open_store.ensures.any_moment_two

pub returns-in-Reply-clause-does : goal.returns-in-Reply-clause-does
returns-in-Reply-clause-does g c =
    let one = c.args.one.now in
    let two = c.args.two.now in
    let r = c.in-Reply.reply in
    visit_as (visit g.D.Disk one two c.open_store.new.one c.open_store.new.two) (λ before after. HasNoWorld before after r) (Done (row (deed.Work c.args.work)) r) (no_world c.args.work r)
    (subst (Opens g.D.Disk one two c.open_store.new.one c.open_store.new.two) c.in-Reply.is c.in_ok-reply.ensures.opens)

pub returns-in-Store-clause-does : goal.returns-in-Store-clause-does
returns-in-Store-clause-does g c =
    let one = c.args.one.now in
    let two = c.args.two.now in
    let opens = subst (Opens g.D.Disk one two c.open_store.new.one c.open_store.new.two) c.in-Store.is c.in_ok-reply.ensures.opens in
    goes_does g.D.Disk c.args.work c.in-Store.store one two c.open_store.new.one c.open_store.new.two c.worked.new.one c.worked.new.two c.worked.result opens.0
    c.open_store.ensures.tells.0 c.open_store.ensures.tells.1 c.worked.ensures.does

pub returns-in-Store-clause-kept : goal.returns-in-Store-clause-kept
returns-in-Store-clause-kept g c =
    λ told told_too.
    let one = c.args.one.now in
    let two = c.args.two.now in
    let store = c.in-Store.store in
    let opens = (subst (Opens g.D.Disk one two c.open_store.new.one c.open_store.new.two) c.in-Store.is c.in_ok-reply.ensures.opens).0 told told_too in
    let tells = c.open_store.ensures.tells in
    let e = exchange g.T.Transport g.P.Pacer c.args.transport.now c.worked.new.transport c.args.pacer.now c.worked.new.pacer in
    goes_on g.D.Disk g.met.D.Disk.only_now g.met.D.Disk.counts_now (λ v journal. ⊥) ((work_row c.args.work).makes e) store.world.world one two c.open_store.new.one c.open_store.new.two c.worked.new.one c.worked.new.two
    (held_before g.D.Disk store one two c.open_store.new.one c.open_store.new.two opens) opens.seen_one opens.seen_two c.open_store.ensures.any_moment_one c.open_store.ensures.any_moment_two
    (c.worked.ensures.kept (subst (λ (b : Bool). IsTrue b) (sym tells.0) told) (subst (λ (b : Bool). IsTrue b) (sym tells.1) told_too))

pub returns-in-Store-clause-undone : goal.returns-in-Store-clause-undone
returns-in-Store-clause-undone g c =
    λ ends told told_too.
    then_untouched g.D.Disk c.args.one.now c.args.two.now c.open_store.new.one c.open_store.new.two c.worked.new.one c.worked.new.two c.open_store.ensures.unwritten
    (c.worked.ensures.untouched ends)

pub returns-in_err-reply-clause-asked : goal.returns-in_err-reply-clause-asked
returns-in_err-reply-clause-asked g c = work_unasked g.T.Transport c.args.work c.args.transport.now

pub returns-in-Reply-clause-asked : goal.returns-in-Reply-clause-asked
returns-in-Reply-clause-asked g c = work_unasked g.T.Transport c.args.work c.args.transport.now

pub returns-in-Reply-clause-outside : goal.returns-in-Reply-clause-outside
returns-in-Reply-clause-outside g c = λ done told told_too. absurd (subst (λ (o : Opened). IsToldUndone o) c.in-Reply.is c.in_ok-reply.ensures.undone done)

pub returns-in-Store-clause-outside : goal.returns-in-Store-clause-outside
returns-in-Store-clause-outside g c =
    let one = c.args.one.now in
    let two = c.args.two.now in
    let store = c.in-Store.store in
    let before : Images = (g.D.Disk.seen one, g.D.Disk.seen two) in
    let after : Images = (g.D.Disk.seen c.worked.new.one, g.D.Disk.seen c.worked.new.two) in
    let e = exchange g.T.Transport g.P.Pacer c.args.transport.now c.worked.new.transport c.args.pacer.now c.worked.new.pacer in
    let opens = (subst (Opens g.D.Disk one two c.open_store.new.one c.open_store.new.two) c.in-Store.is c.in_ok-reply.ensures.opens).0 in
    let tells = c.open_store.ensures.tells in
    let P : Reply → Type 0 = λ r. IsTrue (g.D.Disk.tells c.open_store.new.one) → IsTrue (g.D.Disk.tells c.open_store.new.two) → WorksOutside e c.args.work store.world.world after r.status in
    let Q : Reply → Type 0 = λ r. IsDoneOrFull r.status → IsTrue (g.D.Disk.tells one) → IsTrue (g.D.Disk.tells two) → ActsOutside e (deed.Work c.args.work) before after r.status in
    IfOk-weaker c.worked.result P Q
    (λ r h done told told_too. (
      store.world.world,
      held_before g.D.Disk store one two c.open_store.new.one c.open_store.new.two (opens told told_too),
      h (subst (λ (b : Bool). IsTrue b) (sym tells.0) told) (subst (λ (b : Bool). IsTrue b) (sym tells.1) told_too),
    ))
    c.worked.ensures.outside

pub returns-in-Store-clause-durable : goal.returns-in-Store-clause-durable
returns-in-Store-clause-durable g c =
    let one = c.args.one.now in
    let two = c.args.two.now in
    let tells = c.open_store.ensures.tells in
    done_durable g.D.Disk c.worked.new.one c.worked.new.two (IsTrue (g.D.Disk.tells one)) (IsTrue (g.D.Disk.tells two)) (IsTrue (g.D.Disk.tells c.open_store.new.one)) (IsTrue (g.D.Disk.tells c.open_store.new.two))
    (λ told. subst (λ (b : Bool). IsTrue b) (sym tells.0) told) (λ told_too. subst (λ (b : Bool). IsTrue b) (sym tells.1) told_too) c.worked.result c.worked.ensures.durable

-- ---- memory ran out, or a disk failed

pub returns-in_err-reply-clause-broken : goal.returns-in_err-reply-clause-broken
returns-in_err-reply-clause-broken g c =
    let one = c.args.one.now in
    let two = c.args.two.now in
    let e = exchange g.T.Transport g.P.Pacer c.args.transport.now c.args.transport.now c.args.pacer.now c.args.pacer.now in
    let Still : Type 0 = (c.args.transport.now ≡ c.args.transport.now) × (c.args.pacer.now ≡ c.args.pacer.now) in
    let P : ActError → Type 0 = λ x. IsTrue (g.D.Disk.tells one) → IsTrue (g.D.Disk.tells two)
    → Aborts g.D.Disk e (deed.Work c.args.work) one two c.open_store.new.one c.open_store.new.two (ended_by x) Still in
    each_error c.from_residual.result P (λ x told told_too. inl (c.open_store.ensures.unwritten, (refl, refl)))

pub returns-in-Store-clause-broken : goal.returns-in-Store-clause-broken
returns-in-Store-clause-broken g c =
    let one = c.args.one.now in
    let two = c.args.two.now in
    let store = c.in-Store.store in
    let e = exchange g.T.Transport g.P.Pacer c.args.transport.now c.worked.new.transport c.args.pacer.now c.worked.new.pacer in
    let opens = (subst (Opens g.D.Disk one two c.open_store.new.one c.open_store.new.two) c.in-Store.is c.in_ok-reply.ensures.opens).0 in
    let tells = c.open_store.ensures.tells in
    opened_aborts g.D.Disk e c.args.work store.world.world one two c.worked.new.one c.worked.new.two
    (IsTrue (g.D.Disk.tells one)) (IsTrue (g.D.Disk.tells two)) (IsTrue (g.D.Disk.tells c.open_store.new.one)) (IsTrue (g.D.Disk.tells c.open_store.new.two))
    ((c.worked.new.transport ≡ c.args.transport.now) × (c.worked.new.pacer ≡ c.args.pacer.now))
    (λ told. subst (λ (b : Bool). IsTrue b) (sym tells.0) told) (λ told_too. subst (λ (b : Bool). IsTrue b) (sym tells.1) told_too)
    (λ told told_too. held_before g.D.Disk store one two c.open_store.new.one c.open_store.new.two (opens told told_too))
    c.worked.result c.worked.ensures.durable c.worked.ensures.broken
