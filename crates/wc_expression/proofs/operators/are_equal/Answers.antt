use Rattle.std.proofs.Common.{◌∙◌, sym, ap}
use Rattle.wc_value.specs.declared.value.Value.{out-Value}
use Rattle.wc_expression.specs.Contents.{has_kind}
use Rattle.wc_expression.proofs.Equals.{equality_is}
use Rattle.wc_expression.proofs.operators.are_equal.Goals as goal

pub returns-then-is_of_kind : goal.returns-then-is_of_kind
returns-then-is_of_kind c =
    let seen = out-Value c.args.right.now in
    equality_is c.same_value.result c.args.left.now c.args.right.now
    (ap (λ k. has_kind k seen) (sym c.kind.ensures) ∙ sym c.is_of_kind.ensures ∙ c.if-is_of_kind.true) c.same_value.ensures
