use Rattle.std.proofs.Common.{◌≡◌, [], drop}
use Rattle.wc_semantics.specs.Requests.{files_of}
use Rattle.wc_semantics.proofs.requests.eval_files.Given as goal

abbrev pub invariant-loop-line : goal.invariant-loop-line
invariant-loop-line l = files_of (drop l.line-index l.lines) l.env l.files ≡ files_of l.lines l.env []
