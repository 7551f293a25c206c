use Rattle.std.proofs.Common.{◌∙◌}
use Rattle.wc_syntax.specs.Checked.{findings}
use Rattle.wc_check.specs.Least.{least_after}
use Rattle.wc_check.proofs.Refused.{if_said}
use Rattle.wc_check.proofs.findings.first_finding.Goals as goal

pub returns : goal.returns
returns c = if_said c.args.library.now c.find_all.new.best c.refusal.result (c.in_ok-find_all.ensures ∙ (λ i. least_after (c.none-best.ensures i) (findings ((c.as_slice.ensures ∙ c.library.ensures) i)))) c.refusal.ensures
