use Rattle.std.proofs.Common.{◌∙◌}
use Rattle.wc_syntax.proofs.Escapes.{char_step}
use Rattle.wc_syntax.proofs.printing.expressions.put_quoted.Goals as goal

pub loop-c-preserved : goal.loop-c-preserved
loop-c-preserved c = char_step _ _ _ _ c.in-Some.c c.in-Some.ensures.steps.0 c.in_ok-put_char.ensures ∙ c.loop-c.invariant
