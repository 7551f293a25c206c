use Rattle.std.proofs.Common.{◌≡◌, ◌<◌, ℕ, false, length, Some}
use Rattle.std.specs.Prelude.{slice_get}
use Rattle.wc_graph.specs.declared.link.Link.{Link}
use Rattle.wc_matches.specs.Masks.{AreSound, HasBrought, nth_place}
use Rattle.wc_matches.proofs.masks.sweep.Given as goal

abbrev pub invariant-loop-n : goal.invariant-loop-n
invariant-loop-n l = record {
  size : length l.masks ≡ length l.fn.masks;
  links : l.links ≡ l.graph.links;
  sound : AreSound l.graph.links l.join l.own l.fn.masks → AreSound l.graph.links l.join l.own l.masks;
  brought : l.changed ≡ false → (k : ℕ) (x : Link) → k < l.n → slice_get l.graph.links (nth_place l.join.forward (length l.graph.links) k) ≡ Some x → HasBrought l.join l.own l.masks x;
}
