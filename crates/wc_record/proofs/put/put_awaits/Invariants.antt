use Rattle.std.proofs.Common.{◌≡◌, ℕ, ◌<◌, ◌++◌, take, length, get_or}
use Rattle.std.specs.Prelude.{flat_map}
use Rattle.wc_state.specs.declared.record.Await.{Await}
use Rattle.wc_record.specs.Spelled.{u32_bytes, await_bytes}
use Rattle.wc_record.specs.Written.{IsAwait}
use Rattle.wc_record.proofs.put.put_awaits.Given as goal

abbrev pub invariant-loop-awaited : goal.invariant-loop-awaited
invariant-loop-awaited l = record {
  out : l.out ≡ l.fn.out ++ (u32_bytes (length l.awaited-items) ++ flat_map await_bytes (take l.awaited-index l.awaited-items));
  fits : (k : ℕ) (d : Await) → k < l.awaited-index → IsAwait (get_or l.awaited-items k d);
}
