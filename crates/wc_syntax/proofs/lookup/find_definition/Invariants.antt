use Rattle.std.proofs.Common.{◌≡◌, drop}
use Rattle.wc_syntax.specs.Findings.{definition_named}
use Rattle.wc_syntax.proofs.lookup.find_definition.Given as goal

abbrev pub invariant-loop-definition : goal.invariant-loop-definition
invariant-loop-definition l = definition_named l.name (drop l.definition-index l.definition-items) ≡ definition_named l.name l.definition-items
