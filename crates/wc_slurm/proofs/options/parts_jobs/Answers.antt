use Rattle.std.proofs.Common.{arith}
use Rattle.std.proofs.lemmas.Grind.{common_steps}
use Rattle.wc_slurm.proofs.options.parts_jobs.Goals as goal

pub returns : goal.returns
returns c = grind (arith, common_steps)

pub returns-in_err-word : goal.returns-in_err-word
returns-in_err-word c = grind (arith, common_steps)
