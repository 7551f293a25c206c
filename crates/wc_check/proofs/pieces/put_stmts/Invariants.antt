use Rattle.std.proofs.Common.{◌≡◌, ◌++◌, take, map}
use Rattle.wc_check.specs.Flat.{seen_pieces}
use Rattle.wc_syntax.specs.Mentions.{Does}
use Rattle.wc_check.proofs.pieces.put_stmts.Given as goal

abbrev pub invariant-loop-stmt : goal.invariant-loop-stmt
invariant-loop-stmt l = seen_pieces l.found.items ≡ seen_pieces l.fn.found.items ++ map Does (take l.stmt-index l.stmts)
