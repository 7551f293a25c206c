use Rattle.wc_value.proofs.Trees.{same_by_calls}
use Rattle.wc_value.proofs.equality.+same_tree.Goals as goal

pub same_tree-returns : goal.same_tree-returns
same_tree-returns t c =
    same_by_calls _ _ _ (c.same_text.ensures.0 c.if-not-same_text.false) (c.same_state.ensures.0 c.if-not-same_state.false)
    (c.same_fields.ensures.0 c.if-not-same_fields.false) c.same_branches.ensures
