use Rattle.std.proofs.Common.{◌∙◌, ◌+◌, ap, sym, drop}
use Rattle.std.specs.Prelude.{flat_map}
use Rattle.wc_syntax.specs.Checked.{findings_in}
use Rattle.wc_check.specs.Least.{least_after}
use Rattle.wc_check.proofs.Leasts.{drop_at, least_turn}
use Rattle.wc_check.proofs.findings.findings_in_each.Goals as goal

pub loop-definition-preserved : goal.loop-definition-preserved
loop-definition-preserved c =
    least_turn (findings_in c.args.signatures.now) c.loop-definition.best c.findings_in.new.best c.definition-item.result (drop (c.loop-definition.definition-index + 1) c.args.definitions.now) c.in_ok-findings_in.ensures
    ∙ ap (λ ds. least_after c.loop-definition.best (flat_map (findings_in c.args.signatures.now) ds)) (sym (drop_at c.args.definitions.now c.loop-definition.definition-index c.definition-item.result c.loop-definition-test.true c.definition-item.is))
    ∙ c.loop-definition.invariant
