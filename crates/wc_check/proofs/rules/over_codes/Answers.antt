use Rattle.std.proofs.Common.{◌∙◌, ap, sym}
use Rattle.wc_check.specs.Least.{least_after}
use Rattle.wc_check.proofs.Ruled.{over_read, over_within}
use Rattle.wc_check.proofs.rules.over_codes.Goals as goal

pub returns-then-codes-gt-MOST_CODES : goal.returns-then-codes-gt-MOST_CODES
returns-then-codes-gt-MOST_CODES c = c.offer.ensures ∙ ap (least_after c.args.best.now) (sym (over_read (λ x. x.at) 64 c.args.codes.now c.index-codes-64.result c.if-codes-gt-MOST_CODES.true))

pub returns-else-codes-gt-MOST_CODES : goal.returns-else-codes-gt-MOST_CODES
returns-else-codes-gt-MOST_CODES c = ap (least_after c.args.best.now) (sym (over_within (λ x. x.at) 64 c.args.codes.now c.if-codes-gt-MOST_CODES.false))
