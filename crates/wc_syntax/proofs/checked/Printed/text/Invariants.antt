use Rattle.std.proofs.Common.{◌≡◌, ◌++◌, drop}
use Rattle.std.specs.Prelude.{string_bytes}
use Rattle.std.specs.List.{concat}
use Rattle.wc_syntax.proofs.checked.Printed.text.Given as goal

abbrev pub invariant-loop-text : goal.invariant-loop-text
invariant-loop-text l = string_bytes l.out ++ concat (drop l.text-index l.text-items) ≡ concat l.text-items
