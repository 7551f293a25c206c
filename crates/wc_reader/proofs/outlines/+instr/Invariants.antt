use Rattle.std.proofs.Common.{◌≡◌, ◌+◌, ◌-◌, ◌*◌, ◌++◌, [], ◌∷◌}
use Rattle.wc_grammar.specs.Kinds.{W_ELIF}
use Rattle.wc_grammar.specs.Rules.{turns, as_at, many_at}
use Rattle.wc_grammar.specs.Reading.{expr_at}
use Rattle.wc_reader.specs.Reading.{INSTR, block_at, elif_at, instr_at}
use Rattle.wc_reader.proofs.outlines.+instr.Given as goal

abbrev pub decreases-instr : goal.decreases-instr
decreases-instr l = 64 * l.bound + 40

abbrev pub decreases-branch : goal.decreases-branch
decreases-branch l = 64 * l.bound

abbrev pub decreases-branch_in : goal.decreases-branch_in
decreases-branch_in l = 64 * l.bound + 63

abbrev pub decreases-if_instr : goal.decreases-if_instr
decreases-if_instr l = 64 * l.bound + 62

abbrev pub decreases-elifs : goal.decreases-elifs
decreases-elifs l = 64 * l.bound + 61

abbrev pub decreases-next_elif : goal.decreases-next_elif
decreases-next_elif l = 64 * l.bound + 60

abbrev pub decreases-arm : goal.decreases-arm
decreases-arm l = 64 * l.bound + 59

abbrev pub decreases-end_if : goal.decreases-end_if
decreases-end_if l = 64 * l.bound + 59

abbrev pub decreases-otherwise : goal.decreases-otherwise
decreases-otherwise l = 64 * l.bound + 58

abbrev pub decreases-while_instr : goal.decreases-while_instr
decreases-while_instr l = 64 * l.bound + 58

abbrev pub decreases-block : goal.decreases-block
decreases-block l = 64 * l.bound + 57

abbrev pub decreases-instrs : goal.decreases-instrs
decreases-instrs l = 64 * l.bound + 56

abbrev pub decreases-next_instr : goal.decreases-next_instr
decreases-next_instr l = 64 * l.bound + 55

abbrev pub invariant-elifs-loop-turn : goal.invariant-elifs-loop-turn
invariant-elifs-loop-turn l =
    turns (l.bound - l._turn) (W_ELIF ∷ []) (elif_at (expr_at l.bound) (block_at l.bound (instr_at l.bound))) l.found l.rest ≡ turns l.bound (W_ELIF ∷ []) (elif_at (expr_at l.bound) (block_at l.bound (instr_at l.bound))) l.fn.first l.tokens

abbrev pub invariant-instrs-loop-turn : goal.invariant-instrs-loop-turn
invariant-instrs-loop-turn l =
    turns (l.bound - l._turn) INSTR (λ xs. as_at (instr_at l.bound) (λ x. xs ++ x ∷ [])) l.found l.rest ≡ many_at l.bound INSTR (instr_at l.bound) l.tokens
