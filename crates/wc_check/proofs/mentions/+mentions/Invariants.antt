use Rattle.std.proofs.Common.{◌≡◌, drop}
use Rattle.std.specs.Prelude.{flat_map}
use Rattle.wc_syntax.specs.Mentions.{mentions}
use Rattle.wc_check.specs.Least.{least_after}
use Rattle.wc_check.specs.Sought.{found_at}
use Rattle.wc_check.proofs.mentions.+mentions.Given as goal

abbrev pub invariant-find_in_all-loop-value : goal.invariant-find_in_all-loop-value
invariant-find_in_all-loop-value l = least_after l.best (flat_map (found_at l.search) (flat_map mentions (drop l.value-index l.value-items))) ≡ least_after l.fn.best (flat_map (found_at l.search) (flat_map mentions l.value-items))
