use Rattle.std.proofs.Common.{sym, append-nil, map}
use Rattle.wc_check.specs.Flat.{seen_pieces}
use Rattle.wc_syntax.specs.Mentions.{Does}
use Rattle.wc_check.proofs.Gathered.{map_turn, whole}
use Rattle.wc_check.proofs.pieces.put_stmts.Goals as goal

pub loop-stmt-init : goal.loop-stmt-init
loop-stmt-init c = sym (append-nil (seen_pieces c.args.found.now.items))

pub loop-stmt-preserved : goal.loop-stmt-preserved
loop-stmt-preserved c = map_turn Does _ _ _ c.args.stmts.now c.loop-stmt.stmt-index c.stmt-item.result c.loop-stmt.invariant c.in_ok-put_piece.ensures c.loop-stmt-test.true c.stmt-item.is

pub returns : goal.returns
returns c = whole (map Does) _ _ c.args.stmts.now c.loop-stmt.stmt-index c.loop-stmt.invariant c.loop-stmt-test.false
