use Rattle.std.proofs.Common.{drop}
use Rattle.wc_slurm.proofs.OptionWords.{HasWords}
use Rattle.wc_slurm.proofs.options.words_read.Given as goal

abbrev pub invariant-loop-byte : goal.invariant-loop-byte
invariant-loop-byte l = HasWords l.line l.words l.word l.place (drop l.byte-index l.line)
