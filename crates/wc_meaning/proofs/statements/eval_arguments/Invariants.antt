use Rattle.std.proofs.Common.{◌≡◌, [], drop}
use Rattle.wc_semantics.specs.Statements.{arguments}
use Rattle.wc_meaning.proofs.statements.eval_arguments.Given as goal

abbrev pub invariant-loop-arg : goal.invariant-loop-arg
invariant-loop-arg l = arguments (drop l.arg-index l.arg-items) l.env l.values ≡ arguments l.arg-items l.env []
