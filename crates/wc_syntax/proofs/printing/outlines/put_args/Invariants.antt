use Rattle.std.proofs.Common.{◌≡◌, ◌++◌, drop}
use Rattle.std.specs.Prelude.{string_bytes}
use Rattle.wc_syntax.specs.Printing.{items, separated, arg_text}
use Rattle.wc_syntax.proofs.printing.outlines.put_args.Given as goal

abbrev pub invariant-loop-arg : goal.invariant-loop-arg
invariant-loop-arg l = string_bytes l.out ++ separated l.first arg_text (drop l.arg-index l.args) ≡ string_bytes l.fn.out ++ items arg_text l.args
