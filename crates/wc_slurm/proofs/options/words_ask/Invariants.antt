use Rattle.std.proofs.Common.{◌≡◌, drop}
use Rattle.wc_slurm.specs.Options.{words_ask}
use Rattle.wc_slurm.proofs.options.words_ask.Given as goal

abbrev pub invariant-loop-word : goal.invariant-loop-word
invariant-loop-word l = words_ask (drop l.word-index l.words) ≡ words_ask l.words
