use Rattle.std.proofs.Common.{◌≡◌, ◌++◌, ℕ, map, take}
use Rattle.wc_records.proofs.ready.joined.Given as goal

abbrev pub invariant-loop-pid : goal.invariant-loop-pid
invariant-loop-pid l = l.all.items ≡ l.numbers ++ map (λ (d : ℕ × ℕ). d.1) (take l.pid-index l.due)
