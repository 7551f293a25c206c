use Rattle.std.proofs.Common.{arith}
use Rattle.std.proofs.lemmas.Grind.{common_steps}
use Rattle.wc_slurm.proofs.submission.submission_in.Goals as goal

pub returns-in_default : goal.returns-in_default
returns-in_default c = grind (arith, common_steps)

pub returns-then-not-starts_with : goal.returns-then-not-starts_with
returns-then-not-starts_with c = grind (arith, common_steps)

pub returns-in_err-of_str : goal.returns-in_err-of_str
returns-in_err-of_str c = grind (arith, common_steps)

pub returns : goal.returns
returns c = grind (arith, common_steps)
