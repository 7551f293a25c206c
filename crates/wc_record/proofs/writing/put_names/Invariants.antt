use Rattle.std.proofs.Common.{◌≡◌, ℕ, ◌<◌, ◌++◌, List, take, length, get_or}
use Rattle.std.specs.Prelude.{flat_map}
use Rattle.wc_value.specs.Spells.{IsText}
use Rattle.wc_record.specs.Spelled.{u32_bytes, text_bytes}
use Rattle.wc_record.proofs.writing.put_names.Given as goal

abbrev pub invariant-loop-name : goal.invariant-loop-name
invariant-loop-name l = record {
  out : l.out ≡ l.fn.out ++ (u32_bytes (length l.name-items) ++ flat_map text_bytes (take l.name-index l.name-items));
  fits : (k : ℕ) (d : List ℕ) → k < l.name-index → IsText (get_or l.name-items k d);
}
