use Rattle.std.proofs.Common.{◌≡◌, drop}
use Rattle.wc_lexer.specs.Spellings.{symbol_among}
use Rattle.wc_lexer.proofs.spellings.symbol_among.Given as goal

abbrev pub invariant-loop-symbol : goal.invariant-loop-symbol
invariant-loop-symbol l = symbol_among (drop l.symbol-index l.symbols) l.bytes ≡ symbol_among l.symbols l.bytes
