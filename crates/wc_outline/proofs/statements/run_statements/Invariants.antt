use Rattle.std.proofs.Common.{◌≡◌, drop}
use Rattle.wc_outline.specs.Statements.{statements_in}
use Rattle.wc_outline.proofs.statements.run_statements.Given as goal

abbrev pub invariant-loop-stmt : goal.invariant-loop-stmt
invariant-loop-stmt l = statements_in l.scene (drop l.stmt-index l.stmt-items) l.noted ≡ statements_in l.scene l.stmt-items l.fn.noted
