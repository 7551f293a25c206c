use Rattle.std.proofs.Common.{arith}
use Rattle.std.proofs.lemmas.Grind.{common_steps}
use Rattle.wc_slurm.proofs.quoting.piece.Goals as goal

pub returns-then-byte-eq-QUOTE : goal.returns-then-byte-eq-QUOTE
returns-then-byte-eq-QUOTE c = grind (arith, common_steps)

pub returns-else-byte-eq-QUOTE : goal.returns-else-byte-eq-QUOTE
returns-else-byte-eq-QUOTE c = grind (arith, common_steps)
