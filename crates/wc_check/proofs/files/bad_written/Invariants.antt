use Rattle.std.proofs.Common.{◌≡◌, drop}
use Rattle.std.specs.Prelude.{flat_map}
use Rattle.wc_syntax.specs.Findings.{bad_written}
use Rattle.wc_check.specs.Least.{least_after}
use Rattle.wc_check.proofs.files.bad_written.Given as goal

abbrev pub invariant-loop-file : goal.invariant-loop-file
invariant-loop-file l = least_after l.best (flat_map bad_written (drop l.file-index l.files)) ≡ least_after l.fn.best (flat_map bad_written l.files)
