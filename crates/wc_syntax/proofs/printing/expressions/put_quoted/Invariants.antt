use Rattle.std.proofs.Common.{◌≡◌, ◌++◌, ◌∷◌, string_bytes}
use Rattle.std.specs.Prelude.{flat_map}
use Rattle.std.specs.Str.Iter.{chars_rest}
use Rattle.wc_syntax.specs.Printing.{escape}
use Rattle.wc_syntax.proofs.printing.expressions.put_quoted.Given as goal

abbrev pub invariant-loop-c : goal.invariant-loop-c
invariant-loop-c l = string_bytes l.out ++ flat_map escape (chars_rest l.c-iterator) ≡ string_bytes l.fn.out ++ 34 ∷ flat_map escape l.quoted.text
