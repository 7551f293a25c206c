use Rattle.std.proofs.Common.{◌≡◌, ◌++◌, drop}
use Rattle.std.specs.Prelude.{string_bytes}
use Rattle.wc_report.specs.Shows.{named_lines}
use Rattle.wc_report.proofs.show.put_named.Given as goal

abbrev pub invariant-loop-label : goal.invariant-loop-label
invariant-loop-label l = string_bytes l.out ++ named_lines l.word (drop l.label-index l.label-items) ≡ string_bytes l.fn.out ++ named_lines l.word l.label-items
