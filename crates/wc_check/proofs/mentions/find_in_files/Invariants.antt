use Rattle.std.proofs.Common.{◌≡◌, drop}
use Rattle.std.specs.Prelude.{flat_map}
use Rattle.wc_syntax.specs.Mentions.{mentions}
use Rattle.wc_check.specs.Least.{least_after}
use Rattle.wc_check.specs.Sought.{found_at}
use Rattle.wc_check.proofs.mentions.find_in_files.Given as goal

abbrev pub invariant-loop-file : goal.invariant-loop-file
invariant-loop-file l = least_after l.best (flat_map (λ x. flat_map (found_at l.search) (mentions x.value)) (drop l.file-index l.files)) ≡ least_after l.fn.best (flat_map (λ x. flat_map (found_at l.search) (mentions x.value)) l.files)
