use Rattle.std.proofs.Common.{◌≡◌, drop}
use Rattle.std.specs.Prelude.{flat_map}
use Rattle.wc_syntax.specs.Checked.{findings_in}
use Rattle.wc_check.specs.Least.{least_after}
use Rattle.wc_check.proofs.findings.findings_in_each.Given as goal

abbrev pub invariant-loop-definition : goal.invariant-loop-definition
invariant-loop-definition l = least_after l.best (flat_map (findings_in l.signatures) (drop l.definition-index l.definitions)) ≡ least_after l.fn.best (flat_map (findings_in l.signatures) l.definitions)
