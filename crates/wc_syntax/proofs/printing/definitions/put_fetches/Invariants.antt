use Rattle.std.proofs.Common.{◌≡◌, ◌++◌, drop}
use Rattle.std.specs.Prelude.{string_bytes}
use Rattle.wc_syntax.specs.Printing.{fetch_lines}
use Rattle.wc_syntax.proofs.printing.definitions.put_fetches.Given as goal

abbrev pub invariant-loop-fetch : goal.invariant-loop-fetch
invariant-loop-fetch l = string_bytes l.out ++ fetch_lines (drop l.fetch-index l.fetches) ≡ string_bytes l.fn.out ++ fetch_lines l.fetches
