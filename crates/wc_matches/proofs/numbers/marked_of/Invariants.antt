use Rattle.std.proofs.Common.{◌≡◌, ◌&&◌, ℕ, false, get_or, take}
use Rattle.wc_matches.specs.Found.{has}
use Rattle.wc_matches.proofs.numbers.marked_of.Given as goal

abbrev pub invariant-loop-node : goal.invariant-loop-node
invariant-loop-node l = (m : ℕ) → has l.kept.items m ≡ (has (take l.node-index l.found) m && get_or l.set m false)
