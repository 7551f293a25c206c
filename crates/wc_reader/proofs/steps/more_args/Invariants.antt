use Rattle.std.proofs.Common.{◌≡◌, ◌-◌, [], ◌∷◌}
use Rattle.wc_grammar.specs.Kinds.{S_COMMA}
use Rattle.wc_grammar.specs.Rules.{turns, next_at}
use Rattle.wc_grammar.specs.Reading.{expr_at}
use Rattle.wc_reader.specs.Reading.{arg_at}
use Rattle.wc_reader.proofs.steps.more_args.Given as goal

abbrev pub invariant-loop-turn : goal.invariant-loop-turn
invariant-loop-turn l =
    turns (l.bound - l._turn) (S_COMMA ∷ []) (next_at S_COMMA (arg_at (expr_at l.bound))) l.found l.rest ≡ turns l.bound (S_COMMA ∷ []) (next_at S_COMMA (arg_at (expr_at l.bound))) l.fn.first l.tokens
