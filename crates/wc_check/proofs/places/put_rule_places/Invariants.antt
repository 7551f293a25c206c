use Rattle.std.proofs.Common.{◌≡◌, ◌++◌, take, map}
use Rattle.wc_syntax.specs.Findings.{rule_at}
use Rattle.wc_check.proofs.places.put_rule_places.Given as goal

abbrev pub invariant-loop-rule : goal.invariant-loop-rule
invariant-loop-rule l = l.found.items ≡ l.fn.found.items ++ map rule_at (take l.rule-index l.rules)
