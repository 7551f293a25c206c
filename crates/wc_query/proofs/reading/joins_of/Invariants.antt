use Rattle.std.proofs.Common.{◌≡◌, ◌+◌, length}
use Rattle.wc_query.specs.Words.{joins_of}
use Rattle.wc_query.proofs.Successive.{behind_joins}
use Rattle.wc_query.proofs.reading.joins_of.Given as goal

abbrev pub invariant-loop-left : goal.invariant-loop-left
invariant-loop-left l = record {
  place : l.at + length l.left ≡ 1 + length l.words;
  joins : behind_joins l.joins (joins_of l.at l.left) ≡ joins_of 1 l.words;
}

abbrev pub decreases-loop-left : goal.decreases-loop-left
decreases-loop-left l = length l.left
