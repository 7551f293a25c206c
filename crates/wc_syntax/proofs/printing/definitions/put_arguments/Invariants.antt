use Rattle.std.proofs.Common.{◌≡◌, ◌++◌, drop}
use Rattle.std.specs.Prelude.{string_bytes}
use Rattle.wc_syntax.specs.Printing.{arg_lines}
use Rattle.wc_syntax.proofs.printing.definitions.put_arguments.Given as goal

abbrev pub invariant-loop-line : goal.invariant-loop-line
invariant-loop-line l = string_bytes l.out ++ arg_lines (drop l.line-index l.lines) ≡ string_bytes l.fn.out ++ arg_lines l.lines
