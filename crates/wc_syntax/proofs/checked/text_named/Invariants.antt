use Rattle.std.proofs.Common.{◌≡◌, drop}
use Rattle.wc_syntax.specs.Findings.{definition_named}
use Rattle.wc_syntax.proofs.checked.text_named.Given as goal

abbrev pub invariant-loop-at : goal.invariant-loop-at
invariant-loop-at l = definition_named l.name (drop l.at l.library) ≡ definition_named l.name l.library
