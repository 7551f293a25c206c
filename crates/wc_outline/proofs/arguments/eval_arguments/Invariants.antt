use Rattle.std.proofs.Common.{◌≡◌, [], drop}
use Rattle.std.specs.Option.{option_copied}
use Rattle.wc_outline.specs.Arguments.{takes_at, arguments_from}
use Rattle.wc_outline.proofs.arguments.eval_arguments.Given as goal

abbrev pub invariant-loop-arg : goal.invariant-loop-arg
invariant-loop-arg l =
    arguments_from (takes_at (option_copied l.callee)) (drop l.arg-index l.arg-items) l.env l.gathered
    ≡ arguments_from (takes_at (option_copied l.callee)) l.arg-items l.env (record { args = []; fit = [] })
