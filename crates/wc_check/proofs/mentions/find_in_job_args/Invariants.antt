use Rattle.std.proofs.Common.{◌≡◌, drop}
use Rattle.std.specs.Prelude.{flat_map}
use Rattle.wc_syntax.specs.Mentions.{mentions}
use Rattle.wc_check.specs.Least.{least_after}
use Rattle.wc_check.specs.Sought.{found_at}
use Rattle.wc_check.proofs.mentions.find_in_job_args.Given as goal

abbrev pub invariant-loop-line : goal.invariant-loop-line
invariant-loop-line l = least_after l.best (flat_map (λ x. flat_map (found_at l.search) (mentions x.value)) (drop l.line-index l.lines)) ≡ least_after l.fn.best (flat_map (λ x. flat_map (found_at l.search) (mentions x.value)) l.lines)
