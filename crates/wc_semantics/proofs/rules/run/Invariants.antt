use Rattle.std.proofs.Common.{◌≡◌, drop}
use Rattle.wc_semantics.specs.Rules.{run_rules}
use Rattle.wc_semantics.proofs.rules.run.Given as goal

abbrev pub invariant-loop-rule : goal.invariant-loop-rule
invariant-loop-rule l = run_rules l.ports (drop l.rule-index l.rule-items) l.env l.outputs ≡ run_rules l.ports l.rule-items l.fn.env l.fn.outputs
