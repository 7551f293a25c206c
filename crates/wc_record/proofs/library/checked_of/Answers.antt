use Rattle.std.proofs.Common.{◌∙◌}
use Rattle.wc_record.proofs.Printed.{prints_other, prints_refused}
use Rattle.wc_record.proofs.library.checked_of.Goals as goal

pub returns-then-not-same_text : goal.returns-then-not-same_text
returns-then-not-same_text c =
    prints_other _ c.args.library c.requires.says
    (λ e. let same = c.same_text.ensures.1 (c.in_ok-printed.ensures ∙ e) in let differ = c.if-not-same_text.true in cc)

pub returns : goal.returns
returns c =
    prints_refused _ c.args.library c.in-Err.error c.requires.says c.in-Err.ensures.err
    (λ e. let memory = c.is_unchecked.ensures.1 e in let other = c.if-is_unchecked.false in cc)
