use Rattle.std.proofs.Common.{◌≡◌, ◌∷◌}
use Rattle.wc_meaning.proofs.trees.path_from_caller.Given as goal

abbrev pub invariant-loop-label : goal.invariant-loop-label
invariant-loop-label l = l.longer ≡ l.fn.label ∷ l.yielded
