use Rattle.std.proofs.Common.{arith}
use Rattle.std.proofs.lemmas.Grind.{common_steps}
use Rattle.wc_slurm.proofs.lines.copied.Goals as goal

pub returns-in_err-extend : goal.returns-in_err-extend
returns-in_err-extend c = grind (arith, common_steps)

pub returns : goal.returns
returns c = grind (arith, common_steps)
