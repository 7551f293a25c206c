use Rattle.std.proofs.Common.{◌≡◌, ◌≤◌, ◌++◌, length, take, drop}
use Rattle.wc_matches.specs.Numbers.{with_each}
use Rattle.wc_matches.proofs.level.put_rows.Given as goal

abbrev pub invariant-loop-number : goal.invariant-loop-number
invariant-loop-number l = record {
  few : length l.out ≤ l.most;
  left : take l.most (l.out ++ with_each l.row (drop l.number-index l.numbers)) ≡ take l.most (l.fn.out ++ with_each l.row l.numbers);
}
