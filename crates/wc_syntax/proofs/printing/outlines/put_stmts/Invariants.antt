use Rattle.std.proofs.Common.{◌≡◌, ◌++◌, drop}
use Rattle.std.specs.Prelude.{string_bytes}
use Rattle.wc_syntax.specs.Printing.{stmt_lines}
use Rattle.wc_syntax.proofs.printing.outlines.put_stmts.Given as goal

abbrev pub invariant-loop-stmt : goal.invariant-loop-stmt
invariant-loop-stmt l = string_bytes l.out ++ stmt_lines l.margin (drop l.stmt-index l.stmts) ≡ string_bytes l.fn.out ++ stmt_lines l.margin l.stmts
