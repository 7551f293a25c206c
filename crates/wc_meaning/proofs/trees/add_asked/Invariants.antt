use Rattle.std.proofs.Common.{◌≡◌, ◌++◌, map}
use Rattle.wc_semantics.specs.Meaning.{from_caller}
use Rattle.wc_meaning.proofs.trees.add_asked.Given as goal

abbrev pub invariant-loop-path : goal.invariant-loop-path
invariant-loop-path l = l.all ≡ l.fn.asked ++ map (from_caller l.label) l.yielded
