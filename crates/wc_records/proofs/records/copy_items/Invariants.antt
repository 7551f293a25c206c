use Rattle.std.proofs.Common.{◌≡◌, take}
use Rattle.wc_records.proofs.records.copy_items.Given as goal

abbrev pub invariant-loop-item : goal.invariant-loop-item
invariant-loop-item l = l.items.items ≡ take l.item-index l.records
