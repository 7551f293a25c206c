use Rattle.std.proofs.Common.{◌≡◌, drop}
use Rattle.std.specs.Prelude.{flat_map}
use Rattle.wc_syntax.specs.Findings.{unknown_port}
use Rattle.wc_check.specs.Least.{least_after}
use Rattle.wc_check.proofs.called.unknown_among.Given as goal

abbrev pub invariant-loop-arg : goal.invariant-loop-arg
invariant-loop-arg l = least_after l.best (flat_map (unknown_port l.ports) (drop l.arg-index l.args)) ≡ least_after l.fn.best (flat_map (unknown_port l.ports) l.args)
