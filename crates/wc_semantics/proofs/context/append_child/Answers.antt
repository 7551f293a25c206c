use Rattle.std.proofs.Common.{◌∙◌}
use Rattle.wc_semantics.proofs.Keyed.{appended}
use Rattle.wc_semantics.proofs.context.append_child.Goals as goal

pub returns : goal.returns
returns c =
    c.in_ok-_before.ensures.ok
    ∙ appended c.args.ctx _ c.args.key _ _ _ _ _ c.args.child c.in_ok-copy.ensures c.in_ok-held.ensures.ok c.in_ok-held.ensures.before c.into_children-children.ensures c.in_ok-push.ensures.ok
