use Rattle.std.proofs.Common.{ℕ, Bool, Err, refl, sym, subst, ◌∙◌}
use Rattle.std.specs.Prelude.{IsTrue}
use Rattle.wc_store.specs.declared.store.Store.{Store}
use Rattle.wc_drill.specs.declared.error.DrillError.{DrillError}
use Rattle.wc_drill.specs.Leaves.{IsBegun, RefusedLeaves}
use Rattle.wc_drill.specs.Refusals.{Counts, RefusesDrill}
use Rattle.wc_drill.proofs.Begun.{begun_unfailed, counts_since, counts_unmade, drilled_refused, drilled_unbegun, filled, held_nothing, init_refused, init_unbegun, lost_unbegun, made, made_two, not_begun, of_init_alone, seen_still, stays, told_mid, unasked, unasked_two, unmade}
use Rattle.wc_drill.proofs.Results.{if_err, if_ok}
use Rattle.wc_drill.proofs.drills.drill.Goals as goal

pub returns-in_err-chains-clause-beside : goal.returns-in_err-chains-clause-beside
returns-in_err-chains-clause-beside g c =
    λ told told_too. unasked g.D.Disk g.met.D.Disk.only_now g.met.D.Disk.counts_now g.met.D.Disk.reads_as c.args.seed c.args.count c.args.one.now c.args.two.now

pub returns-in_err-chains-clause-any_moment_two : goal.returns-in_err-chains-clause-any_moment_two
returns-in_err-chains-clause-any_moment_two g c =
    λ told told_too. unasked_two g.D.Disk g.met.D.Disk.only_now g.met.D.Disk.counts_now g.met.D.Disk.reads_as c.args.seed c.args.count c.args.two.now

pub returns-in_err-table-clause-beside : goal.returns-in_err-table-clause-beside
returns-in_err-table-clause-beside g c =
    λ told told_too. unasked g.D.Disk g.met.D.Disk.only_now g.met.D.Disk.counts_now g.met.D.Disk.reads_as c.args.seed c.args.count c.args.one.now c.args.two.now

pub returns-in_err-table-clause-any_moment_two : goal.returns-in_err-table-clause-any_moment_two
returns-in_err-table-clause-any_moment_two g c =
    λ told told_too. unasked_two g.D.Disk g.met.D.Disk.only_now g.met.D.Disk.counts_now g.met.D.Disk.reads_as c.args.seed c.args.count c.args.two.now

pub returns-in-Ok-clause-done : goal.returns-in-Ok-clause-done
returns-in-Ok-clause-done g c =
    let i = c.in-Ok.ensures in
    if_ok c.drilled.result _ _ (λ batches h. (h.0, h.1, h.2, (h.3.0, filled g.D.Disk c.args.seed c.args.count c.args.one.now c.args.two.now c.init.new.one c.init.new.two c.drilled.new.one c.drilled.new.two i.tells i.seen_two c.drilled.ensures.any_moment c.in-Ok.store i.images h.0 h.3.0 h.3.1)))
    c.drilled.ensures.done

pub returns-in-Ok-clause-nothing : goal.returns-in-Ok-clause-nothing
returns-in-Ok-clause-nothing g c =
    let i = c.in-Ok.ensures in
    λ begun told told_too. held_nothing g.D.Disk c.args.one.now c.args.two.now c.in-Ok.store i.images told told_too

pub returns-in-Ok-clause-refused : goal.returns-in-Ok-clause-refused
returns-in-Ok-clause-refused g c =
    let i = c.in-Ok.ensures in
    if_err c.drilled.result _ _ (drilled_refused g.D.Disk c.args.seed c.args.count c.args.one.now c.args.two.now c.drilled.new.one c.drilled.new.two _ (filled g.D.Disk c.args.seed c.args.count c.args.one.now c.args.two.now c.init.new.one c.init.new.two c.drilled.new.one c.drilled.new.two i.tells i.seen_two c.drilled.ensures.any_moment c.in-Ok.store i.images))
    c.drilled.ensures.refused

pub returns-in-Ok-clause-durable : goal.returns-in-Ok-clause-durable
returns-in-Ok-clause-durable g c =
    let i = c.in-Ok.ensures in
    λ begun told told_too.
    let t = told_mid g.D.Disk c.args.one.now c.args.two.now c.init.new.one c.init.new.two i.tells told told_too in
    stays g.D.Disk c.args.seed c.args.count c.init.new.one c.init.new.two c.drilled.new.one c.drilled.new.two g.met.D.Disk.counts_now
    (g.met.D.Disk.reads_as c.drilled.new.one (subst (λ (b : Bool). IsTrue b) (sym c.drilled.ensures.tells.0) t.0)) (c.drilled.ensures.any_moment t.0 t.1)
    (c.drilled.ensures.durable (begun_unfailed c.drilled.result begun) t.0 t.1)

pub returns-in-Ok-clause-unbegun : goal.returns-in-Ok-clause-unbegun
returns-in-Ok-clause-unbegun g c =
    let i = c.in-Ok.ensures in
    λ told told_too.
    let t = told_mid g.D.Disk c.args.one.now c.args.two.now c.init.new.one c.init.new.two i.tells told told_too in
    drilled_unbegun g.D.Disk c.args.seed c.args.count c.args.one.now c.args.two.now c.drilled.new.one c.drilled.new.two _ c.drilled.result c.drilled.ensures.refused
    (λ whole. stays g.D.Disk c.args.seed c.args.count c.init.new.one c.init.new.two c.drilled.new.one c.drilled.new.two g.met.D.Disk.counts_now
    (g.met.D.Disk.reads_as c.drilled.new.one (subst (λ (b : Bool). IsTrue b) (sym c.drilled.ensures.tells.0) t.0)) (c.drilled.ensures.any_moment t.0 t.1)
    (c.drilled.ensures.durable whole t.0 t.1))

pub returns-in-Ok-clause-seen_two : goal.returns-in-Ok-clause-seen_two
returns-in-Ok-clause-seen_two g c =
    let i = c.in-Ok.ensures in
    seen_still g.D.Disk c.args.seed c.args.count c.args.one.now c.args.two.now c.init.new.one c.init.new.two c.drilled.new.one c.drilled.new.two i.tells i.seen_two c.drilled.ensures.any_moment

pub returns-in-Ok-clause-beside : goal.returns-in-Ok-clause-beside
returns-in-Ok-clause-beside g c =
    let i = c.in-Ok.ensures in
    λ told told_too.
    let t = told_mid g.D.Disk c.args.one.now c.args.two.now c.init.new.one c.init.new.two i.tells told told_too in
    made g.D.Disk g.met.D.Disk.only_now g.met.D.Disk.counts_now g.met.D.Disk.reads_as c.args.seed c.args.count c.args.one.now c.args.two.now c.init.new.one c.init.new.two c.drilled.new.one c.drilled.new.two (i.parts told told_too) (held_nothing g.D.Disk c.args.one.now c.args.two.now c.in-Ok.store i.images told told_too) (i.ok told told_too).durable_two (c.drilled.ensures.any_moment t.0 t.1)

pub returns-in-Ok-clause-any_moment_two : goal.returns-in-Ok-clause-any_moment_two
returns-in-Ok-clause-any_moment_two g c =
    let i = c.in-Ok.ensures in
    made_two g.D.Disk c.args.seed c.args.count c.args.one.now c.args.two.now c.init.new.one c.init.new.two c.drilled.new.one c.drilled.new.two i.tells i.seen_two c.drilled.ensures.any_moment i.any_moment_two

pub returns-in-Ok-clause-tells : goal.returns-in-Ok-clause-tells
returns-in-Ok-clause-tells g c =
    let i = c.in-Ok.ensures in
    (c.drilled.ensures.tells.0 ∙ i.tells.0, c.drilled.ensures.tells.1 ∙ i.tells.1)

pub returns-in-Ok-clause-cause : goal.returns-in-Ok-clause-cause
returns-in-Ok-clause-cause g c =
    let i = c.in-Ok.ensures in
    counts_since c.drilled.result (g.D.Disk.faults c.args.one.now) (g.D.Disk.faults c.init.new.one) (g.D.Disk.faults c.drilled.new.one) (g.D.Disk.faults c.args.two.now) (g.D.Disk.faults c.init.new.two) (g.D.Disk.faults c.drilled.new.two) (g.D.Disk.failed c.drilled.new.one) (g.D.Disk.failed c.drilled.new.two) i.cause c.drilled.ensures.cause

pub of_init-requires : goal.of_init-requires
of_init-requires g c =
    of_init_alone g.D.Disk c.args.one.now c.args.two.now c.in-Err.error c.in-Err.ensures.refused

pub returns-clause-nothing : goal.returns-clause-nothing
returns-clause-nothing g c =
    λ begun. absurd (not_begun ℕ c.in-Err.error (subst (λ (x : DrillError). IsBegun {T = ℕ} (Err x)) c.of_init.ensures begun))

pub returns-clause-durable : goal.returns-clause-durable
returns-clause-durable g c =
    λ begun. absurd (not_begun ℕ c.in-Err.error (subst (λ (x : DrillError). IsBegun {T = ℕ} (Err x)) c.of_init.ensures begun))

pub returns-clause-refused : goal.returns-clause-refused
returns-clause-refused g c =
    let i = c.in-Err.ensures in
    subst (RefusesDrill g.D.Disk c.args.seed c.args.count c.args.one.now c.args.two.now c.init.new.one c.init.new.two) (sym c.of_init.ensures)
    (init_refused g.D.Disk c.args.seed c.args.count c.args.one.now c.args.two.now c.init.new.one c.init.new.two c.in-Err.error i.refused)

pub returns-clause-unbegun : goal.returns-clause-unbegun
returns-clause-unbegun g c =
    let i = c.in-Err.ensures in
    λ told told_too. subst (λ (x : DrillError). RefusedLeaves {T = ℕ} g.D.Disk c.args.seed c.args.count (Err x) c.args.one.now c.args.two.now c.init.new.one c.init.new.two) (sym c.of_init.ensures)
    (init_unbegun g.D.Disk c.args.seed c.args.count c.args.one.now c.args.two.now c.init.new.one c.init.new.two ℕ c.in-Err.error (i.parts told told_too) i.kept)

pub returns-clause-beside : goal.returns-clause-beside
returns-clause-beside g c =
    let i = c.in-Err.ensures in
    λ told told_too. unmade g.D.Disk g.met.D.Disk.only_now g.met.D.Disk.counts_now g.met.D.Disk.reads_as c.args.seed c.args.count c.in-Err.error c.args.one.now c.args.two.now c.init.new.one c.init.new.two told (subst (λ (b : Bool). IsTrue b) (sym i.tells.1) told_too) (i.parts told told_too)

pub returns-clause-cause : goal.returns-clause-cause
returns-clause-cause g c =
    let i = c.in-Err.ensures in
    subst (λ (x : DrillError). Counts {T = ℕ} (Err x) (g.D.Disk.faults c.args.one.now) (g.D.Disk.faults c.init.new.one) (g.D.Disk.faults c.args.two.now) (g.D.Disk.faults c.init.new.two) (g.D.Disk.failed c.init.new.one) (g.D.Disk.failed c.init.new.two)) (sym c.of_init.ensures) (counts_unmade Store ℕ c.in-Err.error (g.D.Disk.faults c.args.one.now) (g.D.Disk.faults c.init.new.one) (g.D.Disk.faults c.args.two.now) (g.D.Disk.faults c.init.new.two) (g.D.Disk.failed c.init.new.one) (g.D.Disk.failed c.init.new.two) i.cause)

pub returns-in_err-chains-clause-unbegun : goal.returns-in_err-chains-clause-unbegun
returns-in_err-chains-clause-unbegun g c =
    λ told told_too. lost_unbegun g.D.Disk g.met.D.Disk.only_now c.args.seed c.args.count c.args.one.now c.args.two.now c.from_residual.result c.from_residual.ensures.1

pub returns-in_err-table-clause-unbegun : goal.returns-in_err-table-clause-unbegun
returns-in_err-table-clause-unbegun g c =
    λ told told_too. lost_unbegun g.D.Disk g.met.D.Disk.only_now c.args.seed c.args.count c.args.one.now c.args.two.now c.from_residual-in_err-table.result c.from_residual-in_err-table.ensures.1
