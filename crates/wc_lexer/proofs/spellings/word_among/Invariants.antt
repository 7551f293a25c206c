use Rattle.std.proofs.Common.{◌≡◌, drop}
use Rattle.wc_lexer.specs.Spellings.{word_among}
use Rattle.wc_lexer.proofs.spellings.word_among.Given as goal

abbrev pub invariant-loop-word : goal.invariant-loop-word
invariant-loop-word l = word_among (drop l.word-index l.words) l.letters ≡ word_among l.words l.letters
