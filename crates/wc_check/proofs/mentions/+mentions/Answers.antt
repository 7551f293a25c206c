use Rattle.std.proofs.Common.{◌∙◌, ◌∷◌, ◌++◌, [], ap, refl, sym}
use Rattle.std.specs.Prelude.{flat_map}
use Rattle.wc_syntax.specs.declared.expression.Form.TheVariants as form
use Rattle.wc_syntax.specs.Mentions.{Context, mentions, part_mentions}
use Rattle.wc_check.specs.Sought.{found_at}
use Rattle.wc_check.specs.Least.{least_after}
use Rattle.wc_check.proofs.Flats.{mentions_at, mentions_binary, mentions_child, mentions_two}
use Rattle.wc_check.proofs.Leasts.{least_parts, least_two}
use Rattle.wc_check.proofs.mentions.+mentions.Goals.{find_in_expr-in-Some, find_in_expr-in-None}
use Rattle.wc_check.proofs.mentions.+mentions.Goals as goal

pub find_in_all-loop-value-preserved : goal.find_in_all-loop-value-preserved
find_in_all-loop-value-preserved t c = least_parts (found_at c.args.search.now) mentions _ _ _ _ _ c.value-item.result c.loop-value.invariant c.find_in_expr.ensures c.loop-value-test.true c.value-item.is

pub find_in_expr-returns-in-Binary : goal.find_in_expr-returns-in-Binary
find_in_expr-returns-in-Binary t c =
    least_two (found_at c.args.search.now) _ _ _ (mentions c.get-in-Binary.result.now) (mentions c.get-in-Binary-2.result.now) _ c.find_in_expr-in-Binary.ensures c.find_in_expr-in-Binary-2.ensures
    (mentions_binary c.args.value.now c.in-Binary.field-0 c.in-Binary.left c.in-Binary.right c.in-Binary.is ∙ (λ i. mentions (sym c.get-in-Binary.ensures i) ++ mentions (sym c.get-in-Binary-2.ensures i)))

pub find_in_expr-returns-in-Two : goal.find_in_expr-returns-in-Two
find_in_expr-returns-in-Two t c =
    least_two (found_at c.args.search.now) _ _ _ (mentions c.get-in-Two.result.now) (mentions c.get-in-Two-2.result.now) _ c.find_in_expr-in-Two.ensures c.find_in_expr-in-Two-2.ensures
    (mentions_two c.args.value.now c.in-Two.field-0 c.in-Two.first c.in-Two.second c.in-Two.is ∙ (λ i. mentions (sym c.get-in-Two.ensures i) ++ mentions (sym c.get-in-Two-2.ensures i)))

pub find_in_expr-returns-after-index : goal.find_in_expr-returns-after-index
find_in_expr-returns-after-index t c = elim c.match-index.branch [
  | find_in_expr-in-Some w ↦
      least_two (found_at c.args.search.now) _ _ _ (Context c.in-Child.at c.in-Child.name ∷ mentions w.in-Some.index) (part_mentions c.in-Child.part) _
      (w.best-is ∙ least_two (found_at c.args.search.now) _ _ _ (Context c.in-Child.at c.in-Child.name ∷ []) (mentions w.in-Some.index) _ c.find_at-in-Child.ensures
      (w.find_in_expr.ensures ∙ ap (λ e. least_after c.find_at-in-Child.new.best (flat_map (found_at c.args.search.now) (mentions e))) w.get.ensures) refl)
      c.find_in_part.ensures
      (mentions_at c.args.value.now c.in-Child.at c.in-Child.name w.in-Some.index c.in-Child.part (c.in-Child.is ∙ ap (λ i. form.Child c.in-Child.at c.in-Child.name i c.in-Child.part) w.in-Some.is))
  | find_in_expr-in-None w ↦
      least_two (found_at c.args.search.now) _ _ _ (Context c.in-Child.at c.in-Child.name ∷ []) (part_mentions c.in-Child.part) _
      (w.best-is ∙ c.find_at-in-Child.ensures) c.find_in_part.ensures
      (mentions_child c.args.value.now c.in-Child.at c.in-Child.name c.in-Child.part (c.in-Child.is ∙ ap (λ i. form.Child c.in-Child.at c.in-Child.name i c.in-Child.part) w.in-None.is))
]
