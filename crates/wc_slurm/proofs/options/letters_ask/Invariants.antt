use Rattle.std.proofs.Common.{◌≡◌, drop}
use Rattle.wc_slurm.specs.Options.{letters_ask}
use Rattle.wc_slurm.proofs.options.letters_ask.Given as goal

abbrev pub invariant-loop-letter : goal.invariant-loop-letter
invariant-loop-letter l = letters_ask (drop l.letter-index l.letters) ≡ letters_ask l.letters
