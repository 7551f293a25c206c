use Rattle.std.proofs.Common.{◌∙◌, ◌+◌, ap, sym, drop, map}
use Rattle.wc_syntax.specs.Findings.{repeated_statuses_after}
use Rattle.wc_check.specs.Least.{least_after}
use Rattle.wc_check.proofs.Leasts.{drop_at}
use Rattle.wc_check.proofs.Repeated.{status_turn}
use Rattle.wc_check.proofs.heads.repeated_codes.Goals as goal

pub loop-code-preserved : goal.loop-code-preserved
loop-code-preserved c =
    status_turn c.loop-code.best c.meet_status.new.best c.loop-code.statuses c.meet_status.new.statuses c.code-item.result.status (map (λ x. x.status) (drop (c.loop-code.code-index + 1) c.args.codes.now))
    c.in_ok-meet_status.ensures.best c.in_ok-meet_status.ensures.statuses
    ∙ ap (λ xs. least_after c.loop-code.best (repeated_statuses_after c.loop-code.statuses (map (λ x. x.status) xs))) (sym (drop_at c.args.codes.now c.loop-code.code-index c.code-item.result c.loop-code-test.true c.code-item.is))
    ∙ c.loop-code.invariant
