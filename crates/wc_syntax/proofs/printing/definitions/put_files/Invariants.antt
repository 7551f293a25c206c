use Rattle.std.proofs.Common.{◌≡◌, ◌++◌, drop}
use Rattle.std.specs.Prelude.{string_bytes}
use Rattle.wc_syntax.specs.Printing.{file_lines}
use Rattle.wc_syntax.proofs.printing.definitions.put_files.Given as goal

abbrev pub invariant-loop-file : goal.invariant-loop-file
invariant-loop-file l = string_bytes l.out ++ file_lines (drop l.file-index l.files) ≡ string_bytes l.fn.out ++ file_lines l.files
