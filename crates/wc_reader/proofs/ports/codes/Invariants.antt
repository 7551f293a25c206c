use Rattle.std.proofs.Common.{◌≡◌, ◌-◌, ◌++◌, [], ◌∷◌}
use Rattle.wc_grammar.specs.Rules.{turns, as_at, many_at}
use Rattle.wc_grammar.specs.Kinds.{W_EXIT_CODE}
use Rattle.wc_reader.specs.Reading.{code_at}
use Rattle.wc_reader.proofs.ports.codes.Given as goal

abbrev pub invariant-loop-turn : goal.invariant-loop-turn
invariant-loop-turn l =
    turns (l.bound - l._turn) (W_EXIT_CODE ∷ []) (λ xs. as_at code_at (λ x. xs ++ x ∷ [])) l.found l.rest ≡ many_at l.bound (W_EXIT_CODE ∷ []) code_at l.tokens
