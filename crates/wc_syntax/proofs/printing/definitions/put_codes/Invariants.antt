use Rattle.std.proofs.Common.{◌≡◌, ◌++◌, drop}
use Rattle.std.specs.Prelude.{string_bytes}
use Rattle.wc_syntax.specs.Printing.{code_lines}
use Rattle.wc_syntax.proofs.printing.definitions.put_codes.Given as goal

abbrev pub invariant-loop-code : goal.invariant-loop-code
invariant-loop-code l = string_bytes l.out ++ code_lines (drop l.code-index l.declared) ≡ string_bytes l.fn.out ++ code_lines l.declared
