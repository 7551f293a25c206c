use Rattle.std.proofs.Common.{arith}
use Rattle.std.proofs.lemmas.Grind.{common_steps}
use Rattle.wc_slurm.proofs.options.is_begun.Goals as goal

pub returns-in-Between : goal.returns-in-Between
returns-in-Between c = grind (arith, common_steps)

pub returns-in-Inside : goal.returns-in-Inside
returns-in-Inside c = grind (arith, common_steps)
