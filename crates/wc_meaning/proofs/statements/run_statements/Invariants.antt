use Rattle.std.proofs.Common.{◌≡◌, ◌==◌, [], drop}
use Rattle.wc_semantics.specs.Rules.{kind_of_port}
use Rattle.wc_semantics.specs.Meaning.{takes_of}
use Rattle.wc_semantics.specs.Statements.{statements}
use Rattle.wc_meaning.proofs.statements.run_statements.Given as goal

abbrev pub invariant-loop-stmt : goal.invariant-loop-stmt
invariant-loop-stmt l =
    statements (l.setting.levels == 0) (takes_of l.setting.library.now) (λ name. kind_of_port name l.setting.ports.now) (drop l.stmt-index l.stmt-items) l.plan l.env l.outputs
    ≡ statements (l.setting.levels == 0) (takes_of l.setting.library.now) (λ name. kind_of_port name l.setting.ports.now) l.stmt-items [] l.fn.env l.fn.outputs
