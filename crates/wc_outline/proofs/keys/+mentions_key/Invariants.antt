use Rattle.std.proofs.Common.{◌≡◌, drop}
use Rattle.std.specs.Prelude.{flat_map}
use Rattle.wc_syntax.specs.Mentions.{mentions}
use Rattle.wc_outline.specs.Keys.{mentions_key}
use Rattle.wc_outline.proofs.keys.+mentions_key.Given as goal

abbrev pub invariant-one_mentions_key-loop-expr : goal.invariant-one_mentions_key-loop-expr
invariant-one_mentions_key-loop-expr l = mentions_key l.key (flat_map mentions (drop l.expr-index l.exprs)) ≡ mentions_key l.key (flat_map mentions l.exprs)
