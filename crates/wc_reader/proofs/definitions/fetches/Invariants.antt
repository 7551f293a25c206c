use Rattle.std.proofs.Common.{◌≡◌, ◌-◌, ◌++◌, [], ◌∷◌}
use Rattle.wc_grammar.specs.Rules.{turns, as_at, many_at}
use Rattle.wc_grammar.specs.Kinds.{W_FETCH}
use Rattle.wc_reader.specs.Reading.{fetch_at}
use Rattle.wc_reader.proofs.definitions.fetches.Given as goal

abbrev pub invariant-loop-turn : goal.invariant-loop-turn
invariant-loop-turn l =
    turns (l.bound - l._turn) (W_FETCH ∷ []) (λ xs. as_at fetch_at (λ x. xs ++ x ∷ [])) l.found l.rest ≡ many_at l.bound (W_FETCH ∷ []) fetch_at l.tokens
