use Rattle.wc_value.proofs.Settles.{can_be_completed}
use Rattle.wc_value.proofs.Stays.{refusal_stays, truncated_at_end}
use Rattle.wc_value.proofs.laws.refusals_come_first.Goals as goal

pub returns-clause-stays : goal.returns-clause-stays
returns-clause-stays c = refusal_stays

pub returns-clause-end : goal.returns-clause-end
returns-clause-end c = truncated_at_end

pub returns-clause-missing : goal.returns-clause-missing
returns-clause-missing c = can_be_completed
