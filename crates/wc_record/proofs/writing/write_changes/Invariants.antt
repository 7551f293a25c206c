use Rattle.std.proofs.Common.{◌≡◌, ℕ, ◌<◌, ◌++◌, take, length, get_or}
use Rattle.std.specs.Prelude.{flat_map}
use Rattle.wc_world.specs.declared.change.Change.{Change}
use Rattle.wc_record.specs.Spelled.{u32_bytes, change_bytes}
use Rattle.wc_record.specs.Written.{IsReadableChange, IsChange}
use Rattle.wc_record.proofs.writing.write_changes.Given as goal

abbrev pub invariant-loop-change : goal.invariant-loop-change
invariant-loop-change l = record {
  out : l.out ≡ u32_bytes (length l.change-items) ++ flat_map change_bytes (take l.change-index l.change-items);
  fits : (k : ℕ) (d : Change) → k < l.change-index → IsReadableChange (get_or l.change-items k d) → IsChange (get_or l.change-items k d);
}
