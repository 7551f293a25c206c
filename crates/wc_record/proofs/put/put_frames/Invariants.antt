use Rattle.std.proofs.Common.{◌≡◌, ℕ, ◌<◌, ◌++◌, take, length, get_or}
use Rattle.std.specs.Prelude.{flat_map}
use Rattle.wc_state.specs.declared.record.Frame.{Frame}
use Rattle.wc_record.specs.Spelled.{u32_bytes, frame_bytes}
use Rattle.wc_record.specs.Written.{IsFrame}
use Rattle.wc_record.proofs.put.put_frames.Given as goal

abbrev pub invariant-loop-frame : goal.invariant-loop-frame
invariant-loop-frame l = record {
  out : l.out ≡ l.fn.out ++ (u32_bytes (length l.frame-items) ++ flat_map frame_bytes (take l.frame-index l.frame-items));
  fits : (k : ℕ) (d : Frame) → k < l.frame-index → IsFrame (get_or l.frame-items k d);
}
