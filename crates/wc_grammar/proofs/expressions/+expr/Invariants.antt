use Rattle.std.proofs.Common.{◌≡◌, ◌+◌, ◌-◌, ◌*◌, [], ◌∷◌}
use Rattle.wc_grammar.specs.Kinds.{S_COMMA}
use Rattle.wc_grammar.specs.Rules.{turns, keys, next_at, further_at}
use Rattle.wc_grammar.specs.Grammar.{binary}
use Rattle.wc_grammar.specs.Reading.{expr_at}
use Rattle.wc_grammar.specs.Levels.{operators, operand_at}
use Rattle.wc_grammar.proofs.Bounds.{rank}
use Rattle.wc_grammar.proofs.expressions.+expr.Given as goal

abbrev pub decreases-expr : goal.decreases-expr
decreases-expr l = 64 * l.bound + 48

abbrev pub decreases-joined : goal.decreases-joined
decreases-joined l = 64 * l.bound + 23 + rank l.level

abbrev pub decreases-more : goal.decreases-more
decreases-more l = 64 * l.bound + 22 + rank l.level

abbrev pub decreases-further : goal.decreases-further
decreases-further l = 64 * l.bound + 21 + rank l.level

abbrev pub decreases-operand : goal.decreases-operand
decreases-operand l = 64 * l.bound + 20 + rank l.level

abbrev pub decreases-compare : goal.decreases-compare
decreases-compare l = 64 * l.bound + 38

abbrev pub decreases-compared : goal.decreases-compared
decreases-compared l = 64 * l.bound + 37

abbrev pub decreases-unary : goal.decreases-unary
decreases-unary l = 64 * l.bound + 19

abbrev pub decreases-primary : goal.decreases-primary
decreases-primary l = 64 * l.bound + 18

abbrev pub decreases-simple : goal.decreases-simple
decreases-simple l = 64 * l.bound + 17

abbrev pub decreases-path : goal.decreases-path
decreases-path l = 64 * l.bound + 16

abbrev pub decreases-child : goal.decreases-child
decreases-child l = 64 * l.bound + 15

abbrev pub decreases-some_index : goal.decreases-some_index
decreases-some_index l = 64 * l.bound + 14

abbrev pub decreases-indexed : goal.decreases-indexed
decreases-indexed l = 64 * l.bound

abbrev pub decreases-nested : goal.decreases-nested
decreases-nested l = 64 * l.bound

abbrev pub decreases-index : goal.decreases-index
decreases-index l = 64 * l.bound + 63

abbrev pub decreases-inside : goal.decreases-inside
decreases-inside l = 64 * l.bound + 62

abbrev pub decreases-one_arg : goal.decreases-one_arg
decreases-one_arg l = 64 * l.bound + 61

abbrev pub decreases-two_args : goal.decreases-two_args
decreases-two_args l = 64 * l.bound + 61

abbrev pub decreases-second : goal.decreases-second
decreases-second l = 64 * l.bound + 60

abbrev pub decreases-brackets : goal.decreases-brackets
decreases-brackets l = 64 * l.bound + 61

abbrev pub decreases-listed : goal.decreases-listed
decreases-listed l = 64 * l.bound + 61

abbrev pub decreases-items : goal.decreases-items
decreases-items l = 64 * l.bound + 60

abbrev pub decreases-others : goal.decreases-others
decreases-others l = 64 * l.bound + 59

abbrev pub decreases-another : goal.decreases-another
decreases-another l = 64 * l.bound + 58

abbrev pub invariant-others-loop-turn : goal.invariant-others-loop-turn
invariant-others-loop-turn l =
    turns (l.bound - l._turn) (S_COMMA ∷ []) (next_at S_COMMA (expr_at l.bound)) l.found l.rest ≡ turns l.bound (S_COMMA ∷ []) (next_at S_COMMA (expr_at l.bound)) l.fn.items l.tokens

abbrev pub invariant-more-loop-turn : goal.invariant-more-loop-turn
invariant-more-loop-turn l =
    turns (l.bound - l._turn) (keys (operators l.level)) (further_at (operators l.level) binary (operand_at l.level l.bound)) l.left l.rest
    ≡ turns l.bound (keys (operators l.level)) (further_at (operators l.level) binary (operand_at l.level l.bound)) l.fn.first l.tokens
