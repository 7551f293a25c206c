use Rattle.std.proofs.Common.{◌*◌, ℕ, Some, refl, ap, ◌∙◌}
use Rattle.wc_io.specs.declared.schedule.Schedule.{Schedule}
use Rattle.wc_drill.proofs.EnoughTurns.{submitted_has_enough, submitted_is_reached}
use Rattle.wc_drill.proofs.drills.run_all.Goals as goal

pub run_chains-requires-clause-reached : goal.run_chains-requires-clause-reached
run_chains-requires-clause-reached g c = submitted_is_reached c.requires.submitted.0 c.args.count c.args.store.now.world.world c.requires.submitted.1

pub run_chains-requires-clause-enough : goal.run_chains-requires-clause-enough
run_chains-requires-clause-enough g c =
    let t = c.new-transport.ensures in
    submitted_has_enough _ _ c.new-transport.result c.new-pacer.result c.requires.submitted.0 c.args.count _ c.args.store.now.world.world c.requires.submitted.1
    (ap (λ (n : ℕ). 17 * n) c.from-turns.ensures) (ap Some (t.table ∙ c.requires.table)) t.placed
    (record {
      listed = ap (λ (s : Schedule). s.failing) t.schedule ∙ c.new.ensures;
      fuse = ap (λ (s : Schedule). s.fuse) t.schedule;
      busy = t.busy ∙ c.new-2.ensures;
    }) refl
