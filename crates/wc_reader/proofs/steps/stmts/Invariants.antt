use Rattle.std.proofs.Common.{◌≡◌, ◌-◌, ◌++◌, [], ◌∷◌}
use Rattle.wc_grammar.specs.Rules.{turns, as_at, many_at}
use Rattle.wc_grammar.specs.Reading.{expr_at}
use Rattle.wc_reader.specs.Reading.{STMT, stmt_at}
use Rattle.wc_reader.proofs.steps.stmts.Given as goal

abbrev pub invariant-loop-turn : goal.invariant-loop-turn
invariant-loop-turn l =
    turns (l.bound - l._turn) STMT (λ xs. as_at (stmt_at l.bound (expr_at l.bound)) (λ x. xs ++ x ∷ [])) l.found l.rest ≡ many_at l.bound STMT (stmt_at l.bound (expr_at l.bound)) l.tokens
