use Rattle.wc_expression.proofs.Cuts.{joined_again, no_feeds}
use Rattle.wc_expression.proofs.laws.one_cut.Goals as goal

pub returns-clause-joined : goal.returns-clause-joined
returns-clause-joined c = joined_again

pub returns-clause-apart : goal.returns-clause-apart
returns-clause-apart c = no_feeds
