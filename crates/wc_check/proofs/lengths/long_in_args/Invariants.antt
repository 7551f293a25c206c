use Rattle.std.proofs.Common.{◌≡◌, drop}
use Rattle.std.specs.Prelude.{flat_map}
use Rattle.wc_syntax.specs.Findings.{long_name}
use Rattle.wc_check.specs.Least.{least_after}
use Rattle.std.specs.Prelude.{map}
use Rattle.wc_check.proofs.lengths.long_in_args.Given as goal

abbrev pub invariant-loop-arg : goal.invariant-loop-arg
invariant-loop-arg l = least_after l.best (flat_map long_name (map (λ a. a.port) (drop l.arg-index l.args))) ≡ least_after l.fn.best (flat_map long_name (map (λ a. a.port) l.args))
