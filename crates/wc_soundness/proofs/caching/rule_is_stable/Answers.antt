use Rattle.wc_soundness.proofs.Rule.{rule_is_stable}
use Rattle.wc_soundness.proofs.caching.rule_is_stable.Goals as goal

pub returns : goal.returns
returns c = rule_is_stable
