use Rattle.std.proofs.Common.{◌≤◌, ◌-◌, length}
use Rattle.wc_value.specs.Ascending.{place}
use Rattle.wc_value.proofs.keyed.place_of.Given as goal

abbrev pub invariant-loop-low : goal.invariant-loop-low
invariant-loop-low g l = record {
  behind : l.low ≤ place l.name l.entries;
  not_behind : place l.name l.entries ≤ l.high;
  within : l.high ≤ length l.entries;
}

abbrev pub decreases-loop-low : goal.decreases-loop-low
decreases-loop-low g l = l.high - l.low
