use Rattle.std.proofs.Common.{◌≡◌, drop}
use Rattle.std.specs.Prelude.{flat_map}
use Rattle.wc_syntax.specs.Findings.{missing_port}
use Rattle.wc_check.specs.Flat.{behind}
use Rattle.wc_check.specs.Least.{least_after}
use Rattle.wc_check.proofs.called.missing_among.Given as goal

abbrev pub invariant-loop-name : goal.invariant-loop-name
invariant-loop-name l = least_after l.best (flat_map (missing_port l.given l.at) (behind (drop l.name-index l.required))) ≡ least_after l.fn.best (flat_map (missing_port l.given l.at) (behind l.required))
