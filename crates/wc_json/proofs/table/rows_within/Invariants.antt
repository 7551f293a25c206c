use Rattle.std.proofs.Common.{◌≡◌, drop}
use Rattle.wc_json.specs.Tables.{rows_within}
use Rattle.wc_json.proofs.table.rows_within.Given as goal

abbrev pub invariant-loop-i : goal.invariant-loop-i
invariant-loop-i l = rows_within 0 l.row-items ≡ rows_within l.i (drop l.i l.row-items)
