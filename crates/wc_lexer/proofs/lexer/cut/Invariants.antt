use Rattle.std.proofs.Common.{◌≡◌, ◌-◌, ◌≤◌, drop, length}
use Rattle.wc_lexer.specs.Tokens.{joined, tokens_from}
use Rattle.wc_lexer.proofs.lexer.cut.Given as goal

abbrev pub invariant-loop-at : goal.invariant-loop-at
invariant-loop-at l = (joined l.found (tokens_from 0 l.at (drop l.at l.bytes)) ≡ tokens_from 0 0 l.bytes) × (l.at ≤ length l.bytes)

abbrev pub decreases-loop-at : goal.decreases-loop-at
decreases-loop-at l = length l.bytes - l.at
