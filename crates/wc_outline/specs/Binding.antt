-- The context while children are bound.
use Rattle.std.specs.Prelude.{Option, Some, None}
use Rattle.wc_state.specs.Context.{Pairs, with_set}
use Rattle.wc_state.specs.declared.context.CtxRef.TheVariants as held
use Rattle.wc_outline.specs.declared.bindings.Joining.{Joining}

-- the context, with the children in it that stand apart
abbrev pub with_last : Pairs → Option Joining → Pairs
with_last ctx None = ctx
with_last ctx (Some j) = with_set ctx j.key (held.Many j.pids)
