use Rattle.std.proofs.Common.{◌≡◌, [], drop}
use Rattle.serde_json.specs.View.{items_view}
use Rattle.wc_value.specs.Requests.{requests, IsDistinct}
use Rattle.wc_json.specs.Tables.{read_rows}
use Rattle.wc_json.proofs.Asked.{AreAsked}
use Rattle.wc_json.proofs.table.read_rows.Given as goal

abbrev pub invariant-loop-i : goal.invariant-loop-i
invariant-loop-i l = record {
  rows : read_rows 0 [] (items_view l.items.items) ≡ read_rows l.i l.rows (items_view (drop l.i l.item-items));
  asked : AreAsked l.earlier l.rows;
  distinct : IsDistinct (requests l.rows);
}
