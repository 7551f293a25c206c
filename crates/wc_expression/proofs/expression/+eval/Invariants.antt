use Rattle.std.proofs.Common.{◌≡◌, ◌+◌, ◌*◌, ◌++◌, max, drop, map}
use Rattle.std.specs.Option.{option_map, unwrap_or}
use denote.Param.Weighed.{most}
use Rattle.wc_syntax.specs.declared.expression.Expr.{size-Expr}
use Rattle.wc_syntax.specs.declared.expression.Form.{size-Form}
use Rattle.wc_expression.specs.Outcomes.{mapped}
use Rattle.wc_expression.specs.Val.{val, all_of}
use Rattle.wc_expression.proofs.expression.+eval.Given as goal

abbrev pub decreases-eval : goal.decreases-eval
decreases-eval l = 3 * size-Expr l.expr.now

abbrev pub decreases-eval_form : goal.decreases-eval_form
decreases-eval_form l = 3 * size-Form l.form.now + 2

abbrev pub decreases-eval_child : goal.decreases-eval_child
decreases-eval_child l = 3 * unwrap_or (option_map size-Expr l.index.now) 0 + 2

abbrev pub decreases-eval_indexed : goal.decreases-eval_indexed
decreases-eval_indexed l = 3 * size-Expr l.index.now + 1

abbrev pub decreases-eval_unary : goal.decreases-eval_unary
decreases-eval_unary l = 3 * size-Expr l.operand.now + 1

abbrev pub decreases-eval_binary : goal.decreases-eval_binary
decreases-eval_binary l = 3 * max (size-Expr l.left.now) (size-Expr l.right.now) + 1

abbrev pub decreases-eval_one : goal.decreases-eval_one
decreases-eval_one l = 3 * size-Expr l.operand.now + 1

abbrev pub decreases-eval_two : goal.decreases-eval_two
decreases-eval_two l = 3 * max (size-Expr l.first.now) (size-Expr l.second.now) + 1

abbrev pub decreases-eval_list : goal.decreases-eval_list
decreases-eval_list l = 3 * most size-Expr l.exprs.now + 1

abbrev pub invariant-eval_list-loop-expr : goal.invariant-eval_list-loop-expr
invariant-eval_list-loop-expr l =
    mapped (λ vs. l.values ++ vs) (all_of (map val (drop l.expr-index l.expr-items)) l.env) ≡ all_of (map val l.expr-items) l.env
