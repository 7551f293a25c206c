use Rattle.std.proofs.Common.{◌≡◌, drop}
use Rattle.std.specs.Prelude.{flat_map}
use Rattle.wc_syntax.specs.Mentions.{stmt_mentions}
use Rattle.wc_outline.specs.Keys.{mentions_key}
use Rattle.wc_outline.proofs.keys.one_stmt_mentions_key.Given as goal

abbrev pub invariant-loop-stmt : goal.invariant-loop-stmt
invariant-loop-stmt l = mentions_key l.key (flat_map stmt_mentions (drop l.stmt-index l.stmts)) ≡ mentions_key l.key (flat_map stmt_mentions l.stmts)
