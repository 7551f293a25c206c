use Rattle.std.proofs.Common.{◌≡◌, ◌++◌, drop}
use Rattle.std.specs.Prelude.{string_bytes}
use Rattle.wc_report.specs.Trees.{output_lines}
use Rattle.wc_report.proofs.tree.put_outputs.Given as goal

abbrev pub invariant-loop-label : goal.invariant-loop-label
invariant-loop-label l = string_bytes l.out ++ output_lines l.margin (drop l.label-index l.label-items) ≡ string_bytes l.fn.out ++ output_lines l.margin l.label-items
