use Rattle.std.proofs.Common.{◌≡◌, ℕ, ◌<◌, ◌++◌, List, take, length, get_or}
use Rattle.std.specs.Prelude.{flat_map}
use Rattle.wc_record.specs.Spelled.{u32_bytes, output_bytes}
use Rattle.wc_record.specs.Written.{IsOutput}
use Rattle.wc_record.proofs.put.put_outputs.Given as goal

abbrev pub invariant-loop-label : goal.invariant-loop-label
invariant-loop-label l = record {
  out : l.out ≡ l.fn.out ++ (u32_bytes (length l.label-items) ++ flat_map output_bytes (take l.label-index l.label-items));
  fits : (k : ℕ) (d : List ℕ × ℕ) → k < l.label-index → IsOutput (get_or l.label-items k d);
}
