use Rattle.std.proofs.Common.{◌≡◌, ℕ, ◌<◌, length, slice_index}
use Rattle.wc_verify.specs.Givers.{recorded_giver, giver_at}
use Rattle.wc_verify.proofs.givers.last_recorded_givers.Given as goal

abbrev pub invariant-loop-pid : goal.invariant-loop-pid
invariant-loop-pid l = record {
  size : length l.table.items ≡ l.pid;
  givers : (n : ℕ) → n < l.pid → slice_index l.table.items n ≡ giver_at recorded_giver l.world.world n;
}
