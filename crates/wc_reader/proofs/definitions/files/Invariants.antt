use Rattle.std.proofs.Common.{◌≡◌, ◌-◌, ◌++◌, [], ◌∷◌}
use Rattle.wc_grammar.specs.Rules.{turns, as_at, many_at}
use Rattle.wc_grammar.specs.Kinds.{W_FILE}
use Rattle.wc_grammar.specs.Reading.{expr_at}
use Rattle.wc_reader.specs.Reading.{file_at}
use Rattle.wc_reader.proofs.definitions.files.Given as goal

abbrev pub invariant-loop-turn : goal.invariant-loop-turn
invariant-loop-turn l =
    turns (l.bound - l._turn) (W_FILE ∷ []) (λ xs. as_at (file_at (expr_at l.bound)) (λ x. xs ++ x ∷ [])) l.found l.rest ≡ many_at l.bound (W_FILE ∷ []) (file_at (expr_at l.bound)) l.tokens
