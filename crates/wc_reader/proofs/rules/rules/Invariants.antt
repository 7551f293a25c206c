use Rattle.std.proofs.Common.{◌≡◌, ◌-◌, ◌++◌, [], ◌∷◌}
use Rattle.wc_grammar.specs.Rules.{turns, as_at, many_at}
use Rattle.wc_grammar.specs.Reading.{expr_at}
use Rattle.wc_reader.specs.Reading.{RULE, rule_at}
use Rattle.wc_reader.proofs.rules.rules.Given as goal

abbrev pub invariant-loop-turn : goal.invariant-loop-turn
invariant-loop-turn l =
    turns (l.bound - l._turn) RULE (λ xs. as_at (rule_at (expr_at l.bound)) (λ x. xs ++ x ∷ [])) l.found l.rest ≡ many_at l.bound RULE (rule_at (expr_at l.bound)) l.tokens
