use Rattle.std.proofs.Common.{arith}
use Rattle.std.proofs.lemmas.Grind.{common_steps}
use Rattle.wc_slurm.proofs.options.is_lone.Goals as goal

pub returns-then-letter-eq115 : goal.returns-then-letter-eq115
returns-then-letter-eq115 c = grind (arith, common_steps)

pub returns-else-letter-eq115 : goal.returns-else-letter-eq115
returns-else-letter-eq115 c = grind (arith, common_steps)
