use Rattle.std.proofs.Common.{◌≡◌, [], drop, map}
use Rattle.wc_syntax.specs.Findings.{repeated_statuses_after}
use Rattle.wc_check.specs.Least.{least_after}
use Rattle.wc_check.proofs.heads.repeated_codes.Given as goal

abbrev pub invariant-loop-code : goal.invariant-loop-code
invariant-loop-code l = least_after l.best (repeated_statuses_after l.statuses (map (λ c. c.status) (drop l.code-index l.codes))) ≡ least_after l.fn.best (repeated_statuses_after [] (map (λ c. c.status) l.codes))
