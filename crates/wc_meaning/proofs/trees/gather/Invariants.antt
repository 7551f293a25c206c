use Rattle.std.proofs.Common.{◌≡◌, map}
use Rattle.std.specs.Prelude.{flat_map}
use Rattle.wc_semantics.specs.Meaning.{its_tree, its_asked}
use Rattle.wc_meaning.proofs.trees.gather.Given as goal

abbrev pub invariant-loop-label : goal.invariant-loop-label
invariant-loop-label l = (l.branches ≡ map its_tree l.yielded) × (l.asked ≡ flat_map its_asked l.yielded)
