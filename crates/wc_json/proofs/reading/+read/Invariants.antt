use Rattle.std.proofs.Common.{◌≡◌, [], drop}
use Rattle.serde_json.specs.View.{items_view, members_view}
use Rattle.wc_json.specs.Reading.{read_items, read_members}
use Rattle.wc_json.proofs.reading.+read.Given as goal

abbrev pub invariant-read_items-loop-i : goal.invariant-read_items-loop-i
invariant-read_items-loop-i l = read_items 0 [] (items_view l.items.items) ≡ read_items l.i-counter l.values (items_view (drop l.i-counter l.item-items))

abbrev pub invariant-read_members-loop-key : goal.invariant-read_members-loop-key
invariant-read_members-loop-key l = read_members [] (members_view l.members.entries) ≡ read_members l.fields (members_view l.key-iterator)
