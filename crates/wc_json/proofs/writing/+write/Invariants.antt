use Rattle.std.proofs.Common.{◌≡◌, map, take}
use Rattle.serde_json.specs.View.{view, members_view}
use Rattle.wc_json.specs.Writing.{data_of, members_by}
use Rattle.wc_json.proofs.writing.+write.Given as goal

abbrev pub invariant-fields_data-loop-name : goal.invariant-fields_data-loop-name
invariant-fields_data-loop-name l = members_view l.members.entries ≡ members_by data_of (take l.name-index l.name-items)

abbrev pub invariant-values_data-loop-item : goal.invariant-values_data-loop-item
invariant-values_data-loop-item l = map view l.list.items ≡ map data_of (take l.item-index l.item-items)
