use Rattle.std.proofs.Common.{◌≡◌, take}
use Rattle.wc_value.proofs.copies.+copy.Given as goal

abbrev pub invariant-copy_fields-loop-name : goal.invariant-copy_fields-loop-name
invariant-copy_fields-loop-name l = l.copies ≡ take l.name-index l.name-items

abbrev pub invariant-copy_values-loop-item : goal.invariant-copy_values-loop-item
invariant-copy_values-loop-item l = l.copies ≡ take l.item-index l.item-items
