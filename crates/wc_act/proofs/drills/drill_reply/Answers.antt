use Rattle.std.proofs.Common.{Bool, Result, ℕ, IsTrue, ap, sym, subst, ◌∙◌}
use Rattle.wc_drill.specs.Texts.{drilled_text}
use Rattle.wc_drill.specs.Leaves.{IsBegun, RefusedLeaves, StaysDrilled}
use Rattle.wc_drill.specs.declared.error.DrillError.{DrillError}
use Rattle.wc_plan.specs.declared.reply.Reply.{Reply}
use Rattle.wc_plan.specs.Replies.{prints}
use Rattle.wc_act.specs.Undone.{IsBeforeTurns}
use Rattle.wc_act.proofs.Drilled.{broken_leaves, drill_leaves, durable, has_drilled, refused_drill, refused_durable, refused_unwritten, untold_leaves}
use Rattle.wc_act.proofs.drills.drill_reply.Goals as goal

-- ---- it came to its end

pub returns-in_err-drilled_text-in-Ok-clause-kept : goal.returns-in_err-drilled_text-in-Ok-clause-kept
returns-in_err-drilled_text-in-Ok-clause-kept g c =
    λ told told_too.
    drill_leaves g.D.Disk c.args.seed c.args.count c.args.one.now c.args.two.now c.drill.new.one c.drill.new.two g.met.D.Disk.counts_now c.drills_are_sound.ensures
    (c.drill.ensures.beside told told_too) (c.drill.ensures.any_moment_two told told_too)

pub returns-in_ok-drilled_text-in-Ok-clause-does : goal.returns-in_ok-drilled_text-in-Ok-clause-does
returns-in_ok-drilled_text-in-Ok-clause-does g c =
    let one = c.args.one.now in
    let two = c.args.two.now in
    has_drilled g.D.Disk c.args.seed c.args.count one two c.drill.new.one c.drill.new.two c.in-Ok.committed c.print.result c.in-Ok.ensures.done
    (c.print.ensures ∙ ap prints (c.in_ok-drilled_text-in-Ok.ensures ∙ ap (λ (sum : ℕ). drilled_text c.args.count sum c.in-Ok.committed) c.sum_of_squares-sum.ensures))

pub returns-in_ok-drilled_text-in-Ok-clause-kept : goal.returns-in_ok-drilled_text-in-Ok-clause-kept
returns-in_ok-drilled_text-in-Ok-clause-kept g c =
    λ told told_too.
    drill_leaves g.D.Disk c.args.seed c.args.count c.args.one.now c.args.two.now c.drill.new.one c.drill.new.two g.met.D.Disk.counts_now c.drills_are_sound.ensures
    (c.drill.ensures.beside told told_too) (c.drill.ensures.any_moment_two told told_too)

pub returns-in_ok-drilled_text-in-Ok-clause-durable : goal.returns-in_ok-drilled_text-in-Ok-clause-durable
returns-in_ok-drilled_text-in-Ok-clause-durable g c =
    let one = c.args.one.now in
    let two = c.args.two.now in
    let P : Result ℕ DrillError → Type 0 = λ x. IsBegun x → IsTrue (g.D.Disk.tells one) → IsTrue (g.D.Disk.tells two) → StaysDrilled g.D.Disk c.args.seed c.args.count c.drill.new.one c.drill.new.two in
    λ done told told_too. durable g.D.Disk c.args.seed c.args.count one two c.drill.new.one c.drill.new.two (subst P c.in-Ok.is c.drill.ensures.durable tt told told_too).durable

pub returns-in_ok-drilled_text-in-Ok-clause-unwritten : goal.returns-in_ok-drilled_text-in-Ok-clause-unwritten
returns-in_ok-drilled_text-in-Ok-clause-unwritten g c = λ ends. absurd (subst (λ (r : Reply). IsBeforeTurns r.status) c.print.ensures ends)

-- ---- it was broken off

pub returns-in-Err-clause-does : goal.returns-in-Err-clause-does
returns-in-Err-clause-does g c =
    let one = c.args.one.now in
    let two = c.args.two.now in
    let Q : Result ℕ DrillError → Type 0 = λ x. IsTrue (g.D.Disk.tells one) → IsTrue (g.D.Disk.tells two) → RefusedLeaves g.D.Disk c.args.seed c.args.count x one two c.drill.new.one c.drill.new.two in
    refused_drill g.D.Disk c.args.seed c.args.count one two c.drill.new.one c.drill.new.two c.in-Err.error c.broken_off.result c.in-Err.ensures.refused c.drill.ensures.seen_two
    (subst Q c.in-Err.is c.drill.ensures.unbegun) c.broken_off.ensures.reply

pub returns-in-Err-clause-kept : goal.returns-in-Err-clause-kept
returns-in-Err-clause-kept g c =
    λ told told_too.
    drill_leaves g.D.Disk c.args.seed c.args.count c.args.one.now c.args.two.now c.drill.new.one c.drill.new.two g.met.D.Disk.counts_now c.drills_are_sound.ensures
    (c.drill.ensures.beside told told_too) (c.drill.ensures.any_moment_two told told_too)

pub returns-in-Err-clause-durable : goal.returns-in-Err-clause-durable
returns-in-Err-clause-durable g c =
    let one = c.args.one.now in
    let two = c.args.two.now in
    let P : Result ℕ DrillError → Type 0 = λ x. IsBegun x → IsTrue (g.D.Disk.tells one) → IsTrue (g.D.Disk.tells two) → StaysDrilled g.D.Disk c.args.seed c.args.count c.drill.new.one c.drill.new.two in
    refused_durable g.D.Disk c.args.seed c.args.count one two c.drill.new.one c.drill.new.two c.in-Err.error c.broken_off.result (subst P c.in-Err.is c.drill.ensures.durable)
    c.broken_off.ensures.reply

pub returns-in-Err-clause-unwritten : goal.returns-in-Err-clause-unwritten
returns-in-Err-clause-unwritten g c =
    λ ends told told_too.
    let one = c.args.one.now in
    let two = c.args.two.now in
    let tells = c.drill.ensures.tells in
    let Q : Result ℕ DrillError → Type 0 = λ x. IsTrue (g.D.Disk.tells one) → IsTrue (g.D.Disk.tells two) → RefusedLeaves g.D.Disk c.args.seed c.args.count x one two c.drill.new.one c.drill.new.two in
    refused_unwritten g.D.Disk c.args.seed c.args.count one two c.drill.new.one c.drill.new.two g.met.D.Disk.counts_now (g.met.D.Disk.reads_as one told) (g.met.D.Disk.reads_as two told_too)
    (g.met.D.Disk.reads_as c.drill.new.one (subst (λ (b : Bool). IsTrue b) (sym tells.0) told)) (g.met.D.Disk.reads_as c.drill.new.two (subst (λ (b : Bool). IsTrue b) (sym tells.1) told_too))
    c.in-Err.error (subst Q c.in-Err.is c.drill.ensures.unbegun told told_too) (c.drill.ensures.seen_two told told_too) c.broken_off.result c.broken_off.ensures.reply ends

-- ---- it has no reply

pub returns-in_err-drilled_text-in-Ok-clause-broken : goal.returns-in_err-drilled_text-in-Ok-clause-broken
returns-in_err-drilled_text-in-Ok-clause-broken g c =
    let one = c.args.one.now in
    let two = c.args.two.now in
    let P : Result ℕ DrillError → Type 0 = λ x. IsBegun x → IsTrue (g.D.Disk.tells one) → IsTrue (g.D.Disk.tells two) → StaysDrilled g.D.Disk c.args.seed c.args.count c.drill.new.one c.drill.new.two in
    untold_leaves g.D.Disk c.args.seed c.args.count one two c.drill.new.one c.drill.new.two c.drills_are_sound.ensures (subst P c.in-Ok.is c.drill.ensures.durable tt) c.from_residual.result

pub returns-in-Err-clause-broken : goal.returns-in-Err-clause-broken
returns-in-Err-clause-broken g c =
    let one = c.args.one.now in
    let two = c.args.two.now in
    let P : Result ℕ DrillError → Type 0 = λ x. IsBegun x → IsTrue (g.D.Disk.tells one) → IsTrue (g.D.Disk.tells two) → StaysDrilled g.D.Disk c.args.seed c.args.count c.drill.new.one c.drill.new.two in
    let Q : Result ℕ DrillError → Type 0 = λ x. IsTrue (g.D.Disk.tells one) → IsTrue (g.D.Disk.tells two) → RefusedLeaves g.D.Disk c.args.seed c.args.count x one two c.drill.new.one c.drill.new.two in
    broken_leaves g.D.Disk c.args.seed c.args.count one two c.drill.new.one c.drill.new.two g.met.D.Disk.counts_now c.drills_are_sound.ensures g.met.D.Disk.reads_as c.drill.ensures.tells
    c.in-Err.error c.broken_off.result (subst Q c.in-Err.is c.drill.ensures.unbegun) c.drill.ensures.seen_two (subst P c.in-Err.is c.drill.ensures.durable) c.broken_off.ensures.cause.1
