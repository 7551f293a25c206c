use Rattle.std.proofs.Common.{◌≡◌, drop}
use Rattle.wc_store.specs.Held.{is_plain}
use Rattle.wc_store.proofs.replay.is_plain.Given as goal

abbrev pub invariant-loop-change : goal.invariant-loop-change
invariant-loop-change l = is_plain (drop l.change-index l.changes) ≡ is_plain l.changes
