use Rattle.std.proofs.Common.{take, map}
use Rattle.wc_syntax.specs.Findings.{is_status}
use Rattle.wc_check.specs.Least.{AgreeAt}
use Rattle.wc_check.proofs.heads.declared.Given as goal

abbrev pub invariant-loop-code : goal.invariant-loop-code
invariant-loop-code l = AgreeAt is_status l.statuses (map (λ n. n.value) (map (λ c. c.status) (take l.code-index l.code-items)))
