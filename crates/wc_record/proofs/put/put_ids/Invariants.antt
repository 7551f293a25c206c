use Rattle.std.proofs.Common.{◌≡◌, ℕ, ◌<◌, ◌++◌, take, length, get_or}
use Rattle.std.specs.Prelude.{flat_map}
use Rattle.wc_record.specs.Spelled.{u32_bytes}
use Rattle.wc_record.specs.Written.{IsNumber}
use Rattle.wc_record.proofs.put.put_ids.Given as goal

abbrev pub invariant-loop-id : goal.invariant-loop-id
invariant-loop-id l = record {
  out : l.out ≡ l.fn.out ++ (u32_bytes (length l.id-items) ++ flat_map u32_bytes (take l.id-index l.id-items));
  fits : (k : ℕ) (d : ℕ) → k < l.id-index → IsNumber (get_or l.id-items k d);
}
