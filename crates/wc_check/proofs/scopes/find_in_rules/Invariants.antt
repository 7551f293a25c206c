use Rattle.std.proofs.Common.{◌≡◌, drop}
use Rattle.wc_check.specs.Scopes.{scope_seen}
use Rattle.wc_check.proofs.Scoped.{in_rules}
use Rattle.wc_check.proofs.scopes.find_in_rules.Given as goal

abbrev pub invariant-loop-rule : goal.invariant-loop-rule
invariant-loop-rule l = in_rules l.best (scope_seen l.scope) (drop l.rule-index l.rules) ≡ in_rules l.fn.best (scope_seen l.fn.scope) l.rules
