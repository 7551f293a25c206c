use Rattle.std.proofs.Common.{Bool, Result, IsTrue, ap, sym, subst, ◌∙◌}
use Rattle.wc_store.specs.declared.error.StoreError.{StoreError}
use Rattle.wc_store.specs.declared.store.Store.{Store}
use Rattle.wc_store.specs.Stores.{InitLeaves}
use Rattle.wc_plan.specs.declared.reply.Reply.{Reply}
use Rattle.wc_act.specs.Crashes.{AreDurable}
use Rattle.wc_plan.specs.Replies.{prints}
use Rattle.wc_act.proofs.Doing.{has_begun, refused_init}
use Rattle.wc_act.proofs.Leaving.{begun, unasked}
use Rattle.wc_act.specs.Owed.{visit, Done}
use Rattle.wc_act.specs.Rows.{IsEmpty, MakesNothing, row}
use Rattle.wc_plan.specs.declared.deed.Begin.TheVariants as begin
use Rattle.wc_plan.specs.declared.deed.Deed.TheVariants as deed
use Rattle.wc_act.proofs.Visiting.{AreOfNew, are_of_new, visit_as}
use Rattle.wc_act.proofs.Undone.{init_undone}
use Rattle.wc_act.specs.Undone.{IsBeforeStoring}
use Rattle.wc_act.proofs.Unwriting.{none_asked, refused_init as refused_unwritten}
use Rattle.wc_act.proofs.init.init_reply.Goals as goal

pub returns-in-Ok-clause-kept : goal.returns-in-Ok-clause-kept
returns-in-Ok-clause-kept g c =
    λ told told_too.
    begun g.D.Disk g.met.D.Disk.only_now g.met.D.Disk.counts_now c.init.result c.args.one.now c.args.two.now c.init.new.one c.init.new.two
    (g.met.D.Disk.reads_as c.args.one.now told) (g.met.D.Disk.reads_as c.args.two.now told_too) (c.init.ensures.parts told told_too) c.init.ensures.any_moment_two

pub returns-in-Ok-clause-does : goal.returns-in-Ok-clause-does
returns-in-Ok-clause-does g c =
    visit_as (visit g.D.Disk c.args.one.now c.args.two.now c.init.new.one c.init.new.two) (AreOfNew c.in-Ok._store) (Done (row (deed.Begin begin.Init)) c.print.result)
    (has_begun c.in-Ok._store c.print.result c.in-Ok.ensures.made.empty_yet (c.in-Ok.ensures.made.place, c.in-Ok.ensures.made.first.generation, c.in-Ok.ensures.made.first.version) (c.print.ensures ∙ ap prints c.in_ok-text.ensures))
    (are_of_new g.D.Disk c.args.one.now c.args.two.now c.init.new.one c.init.new.two c.in-Ok._store c.in-Ok.ensures.images c.in-Ok.ensures.ok c.init.ensures.seen_two)

pub returns-in-Err-clause-does : goal.returns-in-Err-clause-does
returns-in-Err-clause-does g c =
    refused_init g.D.Disk c.in-Err.error c.args.one.now c.args.two.now c.init.new.one c.init.new.two c.refused.result c.in-Err.ensures.refused c.in-Err.ensures.kept
    c.init.ensures.seen_two c.refused.ensures.reply

pub returns-in-Err-clause-durable : goal.returns-in-Err-clause-durable
returns-in-Err-clause-durable g c =
    let one = c.args.one.now in
    let two = c.args.two.now in
    init_undone g.D.Disk one two (IsTrue (g.D.Disk.tells one) → IsTrue (g.D.Disk.tells two) → AreDurable g.D.Disk c.init.new.one c.init.new.two) c.in-Err.error c.refused.result c.in-Err.ensures.refused c.refused.ensures.reply

pub returns-in-Err-clause-kept : goal.returns-in-Err-clause-kept
returns-in-Err-clause-kept g c =
    λ told told_too.
    begun g.D.Disk g.met.D.Disk.only_now g.met.D.Disk.counts_now c.init.result c.args.one.now c.args.two.now c.init.new.one c.init.new.two
    (g.met.D.Disk.reads_as c.args.one.now told) (g.met.D.Disk.reads_as c.args.two.now told_too) (c.init.ensures.parts told told_too) c.init.ensures.any_moment_two

pub returns-in_err-text-clause-kept : goal.returns-in_err-text-clause-kept
returns-in_err-text-clause-kept g c = λ told told_too. unasked g.D.Disk g.met.D.Disk.only_now g.met.D.Disk.counts_now IsEmpty MakesNothing c.args.one.now c.args.two.now

pub returns-in_err-text-clause-unwritten : goal.returns-in_err-text-clause-unwritten
returns-in_err-text-clause-unwritten g c = λ ends told told_too. none_asked g.D.Disk g.met.D.Disk.only_now c.args.one.now c.args.two.now

pub returns-in-Ok-clause-unwritten : goal.returns-in-Ok-clause-unwritten
returns-in-Ok-clause-unwritten g c = λ ends. absurd (subst (λ (r : Reply). IsBeforeStoring r.status) c.print.ensures ends)

pub returns-in-Err-clause-unwritten : goal.returns-in-Err-clause-unwritten
returns-in-Err-clause-unwritten g c =
    λ ends told told_too.
    let tells = c.init.ensures.tells in
    refused_unwritten g.D.Disk g.met.D.Disk.counts_now c.args.one.now c.args.two.now c.init.new.one c.init.new.two (g.met.D.Disk.reads_as c.args.one.now told)
    (g.met.D.Disk.reads_as c.args.two.now told_too) (g.met.D.Disk.reads_as c.init.new.one (subst (λ (b : Bool). IsTrue b) (sym tells.0) told))
    (g.met.D.Disk.reads_as c.init.new.two (subst (λ (b : Bool). IsTrue b) (sym tells.1) told_too)) c.in-Err.error
    (subst (λ (x : Result Store StoreError). InitLeaves g.D.Disk x c.args.one.now c.args.two.now c.init.new.one c.init.new.two) c.in-Err.is (c.init.ensures.parts told told_too))
    c.in-Err.ensures.kept c.init.ensures.seen_two c.refused.result c.refused.ensures.fault ends
