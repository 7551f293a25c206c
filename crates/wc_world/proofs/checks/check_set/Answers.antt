use Rattle.std.proofs.Common.{sym, ◌∙◌}
use Rattle.wc_world.specs.Drafts.{drafted}
use Rattle.wc_world.proofs.Telling.{set_taken, set_found}
use Rattle.wc_world.proofs.checks.check_set.Goals as goal

pub returns-then-branch-clause-ok : goal.returns-then-branch-clause-ok
returns-then-branch-clause-ok c =
    set_taken c.args.terms.now (drafted c.args.draft.now) c.args.set.now c.in-Some.record.now c.in-Some.ensures
    (sym c.in_ok-process_fits-in-Some.ensures ∙ c.if-branch.true)

pub returns-then-branch-clause-sets : goal.returns-then-branch-clause-sets
returns-then-branch-clause-sets c =
    set_found c.args.terms.now (drafted c.args.draft.now) c.args.set.now c.in-Some.record.now c.in-Some.ensures
    (sym c.in_ok-process_fits-in-Some.ensures ∙ c.if-branch.true)
