use Rattle.wc_attempts.proofs.Worked.{mended_chain, spent_chain, unhandled_chain}
use Rattle.wc_attempts.proofs.laws.worked_chains.Goals as goal

pub returns-clause-mended : goal.returns-clause-mended
returns-clause-mended c = mended_chain

pub returns-clause-unhandled : goal.returns-clause-unhandled
returns-clause-unhandled c = unhandled_chain

pub returns-clause-spent : goal.returns-clause-spent
returns-clause-spent c = spent_chain
