use Rattle.std.proofs.Common.{ap, sym, ◌∙◌}
use Rattle.wc_json.specs.Tables.{rows_within}
use Rattle.wc_json.proofs.Rows.{within-tells}
use Rattle.wc_json.proofs.table.rows_within.Goals as goal

pub returns-in-Err : goal.returns-in-Err
returns-in-Err c =
    within-tells _ c.as_slice-row-items.result.now c.loop-i.i c.row-item.result _ c.in-Err.error c.in_ok-at_place.field-0 c.loop-i-test.true c.row-item.is
    c.in-Err.ensures c.in_ok-at_place.ensures (ap (rows_within 0) (sym c.as_slice-row-items.ensures) ∙ c.loop-i.invariant)
