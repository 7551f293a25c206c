use Rattle.std.proofs.Common.{◌≡◌, ◌++◌, drop}
use Rattle.std.specs.Prelude.{string_bytes, flat_map}
use Rattle.wc_matches.specs.Texts.{row_line}
use Rattle.wc_matches.proofs.text.put_rows.Given as goal

abbrev pub invariant-loop-at : goal.invariant-loop-at
invariant-loop-at l = string_bytes l.out ++ flat_map row_line (drop l.at l.rows) ≡ string_bytes l.fn.out ++ flat_map row_line l.rows
