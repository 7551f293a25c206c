use Rattle.std.proofs.Common.{◌≡◌, drop, map}
use Rattle.std.specs.Prelude.{flat_map}
use Rattle.wc_syntax.specs.Findings.{bad_range}
use Rattle.wc_check.specs.Least.{least_after}
use Rattle.wc_check.proofs.heads.bad_ranges.Given as goal

abbrev pub invariant-loop-code : goal.invariant-loop-code
invariant-loop-code l = least_after l.best (flat_map bad_range (map (λ c. c.status) (drop l.code-index l.codes))) ≡ least_after l.fn.best (flat_map bad_range (map (λ c. c.status) l.codes))
