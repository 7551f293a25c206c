use Rattle.std.proofs.Common.{◌≡◌, drop}
use Rattle.std.specs.Prelude.{flat_map}
use Rattle.wc_syntax.specs.Mentions.{mentions}
use Rattle.wc_outline.specs.Keys.{mentions_key}
use Rattle.wc_outline.proofs.keys.one_arg_mentions_key.Given as goal

abbrev pub invariant-loop-arg : goal.invariant-loop-arg
invariant-loop-arg l = mentions_key l.key (flat_map (λ a. mentions a.value) (drop l.arg-index l.args)) ≡ mentions_key l.key (flat_map (λ a. mentions a.value) l.args)
