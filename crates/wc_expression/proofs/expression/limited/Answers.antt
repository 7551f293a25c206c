use Rattle.std.proofs.Common.{Bool, if◌then◌else◌, ap, sym, ◌∙◌}
use Rattle.wc_value.specs.declared.process.Reason.TheVariants.{TooLong}
use Rattle.wc_expression.specs.declared.outcome.Outcome.TheVariants.{Gives, Faults}
use Rattle.wc_expression.specs.Val.{sized}
use Rattle.wc_expression.proofs.Allowed.{allowed_is}
use Rattle.wc_expression.proofs.expression.limited.Goals as goal

pub returns-then-is_within : goal.returns-then-is_within
returns-then-is_within c =
    let v = c.in-Gives.value in
    sym (ap sized c.in-Gives.is ∙ ap (λ (b : Bool). if b then Gives v else Faults TooLong) (allowed_is _ v c.is_within.ensures ∙ c.if-is_within.true))

pub returns-else-is_within : goal.returns-else-is_within
returns-else-is_within c =
    let v = c.in-Gives.value in
    sym (ap sized c.in-Gives.is ∙ ap (λ (b : Bool). if b then Gives v else Faults TooLong) (allowed_is _ v c.is_within.ensures ∙ c.if-is_within.false))
