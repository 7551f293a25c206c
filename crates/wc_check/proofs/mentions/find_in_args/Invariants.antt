use Rattle.std.proofs.Common.{◌≡◌, drop}
use Rattle.std.specs.Prelude.{flat_map}
use Rattle.wc_syntax.specs.Mentions.{mentions}
use Rattle.wc_check.specs.Least.{least_after}
use Rattle.wc_check.specs.Sought.{found_at}
use Rattle.wc_check.proofs.mentions.find_in_args.Given as goal

abbrev pub invariant-loop-arg : goal.invariant-loop-arg
invariant-loop-arg l = least_after l.best (flat_map (found_at l.search) (flat_map (λ a. mentions a.value) (drop l.arg-index l.args))) ≡ least_after l.fn.best (flat_map (found_at l.search) (flat_map (λ a. mentions a.value) l.args))
