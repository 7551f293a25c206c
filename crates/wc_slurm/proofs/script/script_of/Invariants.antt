use Rattle.std.proofs.Common.{◌∷◌, take}
use Rattle.wc_slurm.specs.declared.script.TheConstants.{BEFORE}
use Rattle.wc_slurm.proofs.Words.{Line}
use Rattle.wc_slurm.proofs.script.script_of.Given as goal

abbrev pub invariant-loop-word : goal.invariant-loop-word
invariant-loop-word l = Line BEFORE.now (l.request.program ∷ take l.word-index l.word-items) l.script
