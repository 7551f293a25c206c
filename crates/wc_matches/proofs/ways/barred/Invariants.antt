use Rattle.std.proofs.Common.{◌≡◌, ◌<◌, ◌&&◌, ℕ, false, not, length, get_or}
use Rattle.wc_matches.proofs.ways.barred.Given as goal

abbrev pub invariant-loop-node : goal.invariant-loop-node
invariant-loop-node l = record {
  size : length l.barred.items ≡ l.node;
  each : (m : ℕ) → m < l.node → get_or l.barred.items m false ≡ (not (get_or l.leads.items m false) && not (get_or l.set m false));
}
