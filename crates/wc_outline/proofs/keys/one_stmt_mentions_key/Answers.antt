use Rattle.std.proofs.Common.{sym, ◌∙◌}
use Rattle.wc_syntax.specs.Mentions.{stmt_mentions}
use Rattle.wc_outline.proofs.Mentions.{goes_on, ends_there}
use Rattle.wc_outline.proofs.keys.one_stmt_mentions_key.Goals as goal

pub returns-then-stmt_mentions_key : goal.returns-then-stmt_mentions_key
returns-then-stmt_mentions_key c = ends_there stmt_mentions c.args.key.now c.args.stmts.now c.loop-stmt.stmt-index c.stmt-item.result _ c.loop-stmt.invariant c.loop-stmt-test.true c.stmt-item.is (sym c.stmt_mentions_key.ensures ∙ c.if-stmt_mentions_key.true)

pub loop-stmt-preserved : goal.loop-stmt-preserved
loop-stmt-preserved c = goes_on stmt_mentions c.args.key.now c.args.stmts.now c.loop-stmt.stmt-index c.stmt-item.result _ c.loop-stmt.invariant c.loop-stmt-test.true c.stmt-item.is (sym c.stmt_mentions_key.ensures ∙ c.if-stmt_mentions_key.false)
