use Rattle.std.proofs.Common.{◌≡◌, ◌++◌, drop}
use Rattle.std.specs.Prelude.{string_bytes}
use Rattle.wc_report.specs.Trees.{calls_lines}
use Rattle.wc_report.proofs.tree.+put.Given as goal

abbrev pub invariant-put_calls-loop-label : goal.invariant-put_calls-loop-label
invariant-put_calls-loop-label l = string_bytes l.out ++ calls_lines l.margin (drop l.label-index l.label-items) ≡ string_bytes l.fn.out ++ calls_lines l.margin l.label-items
