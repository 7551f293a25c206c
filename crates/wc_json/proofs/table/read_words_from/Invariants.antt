use Rattle.std.proofs.Common.{◌≡◌, [], drop}
use Rattle.serde_json.specs.View.{items_view}
use Rattle.wc_json.specs.Tables.{read_words_from}
use Rattle.wc_json.proofs.table.read_words_from.Given as goal

abbrev pub invariant-loop-i : goal.invariant-loop-i
invariant-loop-i l = read_words_from 0 [] (items_view l.items.items) ≡ read_words_from l.i l.words (items_view (drop l.i l.item-items))
