use Rattle.std.proofs.Common.{◌≡◌, length}
use Rattle.wc_matches.specs.Masks.{AreSound}
use Rattle.wc_matches.proofs.masks.settle.Given as goal

abbrev pub invariant-loop-round : goal.invariant-loop-round
invariant-loop-round l = record {
  size : length l.masks ≡ length l.fn.masks;
  sound : AreSound l.graph.links l.join l.own l.masks;
}
