use Rattle.std.proofs.Common.{◌≡◌, ◌++◌, drop}
use Rattle.std.specs.Prelude.{string_bytes}
use Rattle.wc_matches.specs.Texts.{further_text}
use Rattle.wc_matches.proofs.text.put_further.Given as goal

abbrev pub invariant-loop-number : goal.invariant-loop-number
invariant-loop-number l = string_bytes l.out ++ further_text (drop l.number-index l.numbers) ≡ string_bytes l.fn.out ++ further_text l.numbers
