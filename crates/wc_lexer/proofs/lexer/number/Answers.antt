use Rattle.wc_lexer.proofs.Numbers.{too_wide}
use Rattle.wc_lexer.proofs.lexer.number.Goals as goal

pub returns-then-value-digit-clause-value : goal.returns-then-value-digit-clause-value
returns-then-value-digit-clause-value c =
    too_wide _ c.loop-byte.byte-index c.loop-byte.value c.from-digit.result c.loop-byte.invariant.0 c.loop-byte-test.true
    (c.requires _ c.loop-byte-test.true) c.from-digit.ensures c.if-value-digit.true
