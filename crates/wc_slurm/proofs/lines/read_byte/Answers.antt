use Rattle.std.proofs.Common.{arith}
use Rattle.std.proofs.lemmas.Grind.{common_steps}
use Rattle.wc_slurm.proofs.lines.read_byte.Goals as goal

pub returns-then-is_end : goal.returns-then-is_end
returns-then-is_end c = grind (arith, common_steps)

pub returns-else-is_end : goal.returns-else-is_end
returns-else-is_end c = grind (arith, common_steps)
