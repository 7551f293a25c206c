use Rattle.std.proofs.Common.{◌≡◌, ◌-◌, ◌++◌, [], ◌∷◌}
use Rattle.wc_grammar.specs.Rules.{turns, as_at, many_at}
use Rattle.wc_reader.specs.Reading.{DEFINITION, definition_at}
use Rattle.wc_reader.proofs.definitions.library.Given as goal

abbrev pub invariant-loop-turn : goal.invariant-loop-turn
invariant-loop-turn l =
    turns (l.bound - l._turn) DEFINITION (λ xs. as_at (definition_at l.bound) (λ x. xs ++ x ∷ [])) l.found l.rest ≡ many_at l.bound DEFINITION (definition_at l.bound) l.tokens
