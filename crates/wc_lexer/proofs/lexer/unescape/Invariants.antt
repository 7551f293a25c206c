use Rattle.std.proofs.Common.{◌≡◌, ◌+◌, drop, false}
use Rattle.wc_lexer.specs.Tokens.{joined, unescaped}
use Rattle.wc_lexer.proofs.lexer.unescape.Given as goal

abbrev pub invariant-loop-index : goal.invariant-loop-index
invariant-loop-index l = joined l.content (unescaped (l.from + l.index) l.escape (drop l.index l.part)) ≡ unescaped l.from false l.part
