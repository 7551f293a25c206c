use Rattle.std.proofs.Common.{◌≡◌, drop, false}
use Rattle.wc_lexer.specs.Tokens.{closing}
use Rattle.wc_lexer.proofs.lexer.closing.Given as goal

abbrev pub invariant-loop-at : goal.invariant-loop-at
invariant-loop-at l = closing l.at l.escape (drop l.at l.bytes) ≡ closing l.from false (drop l.from l.bytes)
