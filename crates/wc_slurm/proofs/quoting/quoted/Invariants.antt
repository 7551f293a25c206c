use Rattle.std.proofs.Common.{take}
use Rattle.wc_slurm.proofs.Reading.{HasRead}
use Rattle.wc_slurm.proofs.quoting.quoted.Given as goal

abbrev pub invariant-loop-byte : goal.invariant-loop-byte
invariant-loop-byte l = HasRead l.text (take l.byte-index l.word)
