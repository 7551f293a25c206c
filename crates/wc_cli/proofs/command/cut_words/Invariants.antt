use Rattle.std.proofs.Common.{◌≡◌, drop}
use Rattle.wc_cli.specs.Words.{cut_after, cut_all}
use Rattle.wc_cli.proofs.command.cut_words.Given as goal

abbrev pub invariant-loop-word : goal.invariant-loop-word
invariant-loop-word l = cut_after l.givens (drop l.word-index l.words) ≡ cut_all l.words
