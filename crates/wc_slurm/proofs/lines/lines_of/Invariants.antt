use Rattle.std.proofs.Common.{drop}
use Rattle.wc_slurm.specs.Lines.{is_feed}
use Rattle.wc_slurm.proofs.Parts.{HasParts}
use Rattle.wc_slurm.proofs.lines.lines_of.Given as goal

abbrev pub invariant-loop-byte : goal.invariant-loop-byte
invariant-loop-byte l = HasParts is_feed l.text l.lines l.line (drop l.byte-index l.text)
