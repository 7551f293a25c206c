use Rattle.std.proofs.Common.{◌≡◌, ℕ, ◌<◌, ◌++◌, List, take, length, get_or}
use Rattle.std.specs.Prelude.{flat_map}
use Rattle.wc_state.specs.declared.context.CtxRef.{CtxRef}
use Rattle.wc_record.specs.Spelled.{u32_bytes, pair_bytes}
use Rattle.wc_record.specs.Written.{IsShallow, IsPair}
use Rattle.wc_record.proofs.put.put_context.Given as goal

abbrev pub invariant-loop-at : goal.invariant-loop-at
invariant-loop-at l = record {
  within : l.count ≡ length l.context;
  out : l.out ≡ l.fn.out ++ (u32_bytes (length l.context) ++ flat_map pair_bytes (take l.at l.context));
  fits : (k : ℕ) (d : List ℕ × CtxRef) → k < l.at → IsShallow (get_or l.context k d).1 → IsPair (get_or l.context k d);
}
