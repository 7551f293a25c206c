use Rattle.std.proofs.Common.{◌≡◌, drop}
use Rattle.std.specs.Prelude.{take}
use Rattle.wc_state.specs.Context.{DifferFrom}
use Rattle.wc_outline.specs.Keys.{instr_mentions}
use Rattle.wc_outline.specs.Reads.{mentioned_of}
use Rattle.wc_outline.proofs.reads.mentioned_of.Given as goal

abbrev pub invariant-loop-at : goal.invariant-loop-at
invariant-loop-at l = (l.read ≡ mentioned_of (instr_mentions l.instr) (take l.at l.ctx)) × DifferFrom (take l.at l.ctx) (drop l.at l.ctx)
