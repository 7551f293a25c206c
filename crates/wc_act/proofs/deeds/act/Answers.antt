use Rattle.std.proofs.Common.{◌≡◌, ⊎_elim, IfOk, IsTrue, refl, sym, subst}
use Rattle.std.proofs.Common.{arith}
use Rattle.std.proofs.lemmas.Grind.{common_steps}
use Rattle.std.specs.Prelude.{IfErr}
use borrow.Enum.Total.{values_d}
use Rattle.wc_plan.specs.contracts.deed.Deed.{enum}
use Rattle.wc_plan.specs.declared.deed.Deed.{Deed}
use Rattle.wc_plan.specs.declared.reply.Reply.{Reply}
use Rattle.wc_act.specs.Aborted.{Aborts}
use Rattle.wc_act.specs.Crashes.{LeavesKept}
use Rattle.wc_act.specs.Exchanges.{exchange}
use Rattle.wc_act.specs.Outside.{ActsOutside, IsIdle}
use Rattle.wc_act.specs.Rows.{row}
use Rattle.wc_act.specs.Undone.{ended_by}
use Rattle.wc_act.specs.declared.error.ActError.{ActError}
use Rattle.wc_act.specs.Statuses.{IsDoneOrFull}
use Rattle.wc_act.specs.StoreDeeds.{Images}
use Rattle.wc_plan.specs.declared.deed.Begin.{Begin}
use Rattle.wc_plan.specs.declared.deed.Begin.TheVariants as begin
use Rattle.wc_plan.specs.declared.deed.Deed.TheVariants as deed
use Rattle.wc_act.proofs.Broken.{begun_aborts, init_aborts}
use Rattle.wc_act.proofs.deeds.act.Goals as goal

pub returns-in-Work-clause-outside : goal.returns-in-Work-clause-outside
returns-in-Work-clause-outside g c =
    let before : Images = (g.D.Disk.seen c.args.one.now, g.D.Disk.seen c.args.two.now) in
    let after : Images = (g.D.Disk.seen c.work_reply.new.one, g.D.Disk.seen c.work_reply.new.two) in
    let e = exchange g.T.Transport g.P.Pacer c.args.transport.now c.work_reply.new.transport c.args.pacer.now c.work_reply.new.pacer in
    let P : Deed → Type 0 = λ d. IfOk c.work_reply.result (λ (r : Reply). IsDoneOrFull r.status → IsTrue (g.D.Disk.tells c.args.one.now) → IsTrue (g.D.Disk.tells c.args.two.now) → ActsOutside e d before after r.status) in
    subst P (sym c.in-Work.is) c.work_reply.ensures.outside

pub returns-in-Work-clause-kept : goal.returns-in-Work-clause-kept
returns-in-Work-clause-kept g c =
    λ told told_too.
    let e = exchange g.T.Transport g.P.Pacer c.args.transport.now c.work_reply.new.transport c.args.pacer.now c.work_reply.new.pacer in
    let P : Deed → Type 0 = λ d. LeavesKept g.D.Disk (row d).begins ((row d).makes e) c.args.one.now c.args.two.now c.work_reply.new.one c.work_reply.new.two in
    subst P (sym c.in-Work.is) (c.work_reply.ensures.kept told told_too)

pub returns-in-Work-clause-still : goal.returns-in-Work-clause-still
returns-in-Work-clause-still g c =
    ⊎_elim (λ idle. c.work_reply.ensures.idle (subst IsIdle c.in-Work.is idle)) (λ ends. c.work_reply.ensures.unbegun ends)

-- ---- memory ran out, or a disk failed

pub returns-in-Work-clause-broken : goal.returns-in-Work-clause-broken
returns-in-Work-clause-broken g c =
    let one = c.args.one.now in
    let two = c.args.two.now in
    let e = exchange g.T.Transport g.P.Pacer c.args.transport.now c.work_reply.new.transport c.args.pacer.now c.work_reply.new.pacer in
    let P : Deed → Type 0 = λ d. IfErr c.work_reply.result (λ (x : ActError). IsTrue (g.D.Disk.tells one) → IsTrue (g.D.Disk.tells two)
    → Aborts g.D.Disk e d one two c.work_reply.new.one c.work_reply.new.two (ended_by x)
    ((c.work_reply.new.transport ≡ c.args.transport.now) × (c.work_reply.new.pacer ≡ c.args.pacer.now))) in
    subst P (sym c.in-Work.is) c.work_reply.ensures.broken

pub returns-in-Begin-Init-clause-broken : goal.returns-in-Begin-Init-clause-broken
returns-in-Begin-Init-clause-broken g c =
    let one = c.args.one.now in
    let two = c.args.two.now in
    let A : Type 0 = IsTrue (g.D.Disk.tells one) in
    let B : Type 0 = IsTrue (g.D.Disk.tells two) in
    let e = exchange g.T.Transport g.P.Pacer c.args.transport.now c.args.transport.now c.args.pacer.now c.args.pacer.now in
    let Still : Type 0 = (c.args.transport.now ≡ c.args.transport.now) × (c.args.pacer.now ≡ c.args.pacer.now) in
    let P : Deed → Type 0 = λ d. IfErr c.init_reply.result (λ (x : ActError). A → B → Aborts g.D.Disk e d one two c.init_reply.new.one c.init_reply.new.two (ended_by x) Still) in
    let is_init : c.args.deed ≡ deed.Begin begin.Init = grind (arith, common_steps) in
    subst P (sym is_init) (
    (begun_aborts g.D.Disk e begin.Init one two c.init_reply.new.one c.init_reply.new.two A B Still (refl, refl) c.init_reply.result
    (init_aborts g.D.Disk one two c.init_reply.new.one c.init_reply.new.two A B c.init_reply.result c.init_reply.ensures.unwritten)))

pub returns-in-Begin-Drill-clause-broken : goal.returns-in-Begin-Drill-clause-broken
returns-in-Begin-Drill-clause-broken g c =
    let one = c.args.one.now in
    let two = c.args.two.now in
    let A : Type 0 = IsTrue (g.D.Disk.tells one) in
    let B : Type 0 = IsTrue (g.D.Disk.tells two) in
    let e = exchange g.T.Transport g.P.Pacer c.args.transport.now c.args.transport.now c.args.pacer.now c.args.pacer.now in
    let Still : Type 0 = (c.args.transport.now ≡ c.args.transport.now) × (c.args.pacer.now ≡ c.args.pacer.now) in
    let P : Deed → Type 0 = λ d. IfErr c.drill_reply.result (λ (x : ActError). A → B → Aborts g.D.Disk e d one two c.drill_reply.new.one c.drill_reply.new.two (ended_by x) Still) in
    let R : Deed → Type 0 = λ d. (values_d enum 0 c.in-Begin-Drill.result-1-own.given.0 d).0 ≡ begin.Drill c.in-Begin-Drill.seed c.in-Begin-Drill.count in
    let is_drill : c.in-Begin-Drill.field-0 ≡ begin.Drill c.in-Begin-Drill.seed c.in-Begin-Drill.count = subst R c.in-Begin-Drill.is c.in-Begin-Drill.field-0-is in
    let Q : Begin → Type 0 = λ b. P (deed.Begin b) in
    subst P (sym c.in-Begin-Drill.is) (subst Q (sym is_drill)
    (begun_aborts g.D.Disk e (begin.Drill c.in-Begin-Drill.seed c.in-Begin-Drill.count) one two c.drill_reply.new.one c.drill_reply.new.two A B Still (refl, refl) c.drill_reply.result
    c.drill_reply.ensures.broken))
