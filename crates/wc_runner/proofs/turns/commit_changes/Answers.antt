use Rattle.std.proofs.Common.{Bool, Err, ap, subst, sym, ◌∙◌}
use Rattle.wc_store.specs.Stepped.{IsOrCommitted, Stepped}
use Rattle.wc_runner.specs.Refusals.{is_live_after}
use Rattle.wc_runner.proofs.Accepted.{live_as, refused_commit, unchanged_as}
use Rattle.wc_runner.proofs.turns.commit_changes.Goals as goal

pub returns-in-Err-clause-stepped : goal.returns-in-Err-clause-stepped
returns-in-Err-clause-stepped g c =
    let s = c.args.store.now in
    let of_commit = refused_commit s.journal c.args.limits.now s.world.world c.args.changes c.in-Err.error c.in-Err.ensures.refused in
    subst (λ (b : Bool). Stepped g.D.Disk (IsOrCommitted c.args.limits.now c.args.changes s) b s c.args.one.now c.args.two.now c.commit.new.self c.commit.new.one c.commit.new.two)
    (live_as c.in-Err.error of_commit ∙ ap (λ e. is_live_after {T = Unit {0}} (Err e)) (sym c.of_store.ensures)) c.in-Err.ensures.stepped

pub returns-in-Err-clause-untouched : goal.returns-in-Err-clause-untouched
returns-in-Err-clause-untouched g c =
    let s = c.args.store.now in
    let of_commit = refused_commit s.journal c.args.limits.now s.world.world c.args.changes c.in-Err.error c.in-Err.ensures.refused in (
      unchanged_as c.in-Err.error of_commit c.of_store.result c.of_store.ensures c.args.one.now c.commit.new.one c.in-Err.ensures.untouched.0,
      unchanged_as c.in-Err.error of_commit c.of_store.result c.of_store.ensures c.args.two.now c.commit.new.two c.in-Err.ensures.untouched.1,
    )
