use Rattle.std.proofs.Common.{◌≡◌, ◌++◌, drop}
use Rattle.std.specs.Prelude.{string_bytes}
use Rattle.wc_syntax.specs.Printing.{rule_lines}
use Rattle.wc_syntax.proofs.printing.definitions.put_rules.Given as goal

abbrev pub invariant-loop-rule : goal.invariant-loop-rule
invariant-loop-rule l = string_bytes l.out ++ rule_lines l.margin (drop l.rule-index l.rule-items) ≡ string_bytes l.fn.out ++ rule_lines l.margin l.rule-items
