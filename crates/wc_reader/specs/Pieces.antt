-- Pieces of the readings of definitions, by themselves.
use Rattle.std.specs.Prelude.{ℕ, List, [], ◌∷◌}
use Rattle.wc_syntax.specs.declared.expression.Name.{Name}
use Rattle.wc_syntax.specs.declared.definition.Port.{Port}
use Rattle.wc_syntax.specs.declared.definition.Head.{Head}
use Rattle.wc_syntax.specs.declared.definition.JobLine.{JobLine}
use Rattle.wc_syntax.specs.declared.definition.Job.{Job}
use Rattle.wc_grammar.specs.Kinds.{S_OPEN_BRACE, S_CLOSE_BRACE, W_ARG, W_FILE, W_FETCH, W_EXIT_CODE}
use Rattle.wc_grammar.specs.Rules.{Reader, seq, as_at, many_at, sign_at}
use Rattle.wc_grammar.specs.Reading.{expr_at}
use Rattle.wc_reader.specs.Reading.{ports_at, code_at, line_at, file_at, fetch_at, parse_at}

-- a head from behind its arrow
abbrev pub head_end_at : ℕ → ℕ → Name → List Port → Reader Head
head_end_at n at x ins = seq (ports_at n) (λ outs. seq (sign_at S_OPEN_BRACE) (λ _. as_at (many_at n (W_EXIT_CODE ∷ []) code_at) (λ cs. record { at = at; name = x; inputs = ins; outputs = outs; codes = cs })))

-- a job from behind its program
abbrev pub job_body_at : ℕ → Head → JobLine → Reader Job
job_body_at n h p = seq (many_at n (W_ARG ∷ []) (line_at W_ARG (expr_at n))) (λ xs. seq (many_at n (W_FILE ∷ []) (file_at (expr_at n))) (λ fs.
    seq (many_at n (W_FETCH ∷ []) fetch_at) (λ ts. seq (parse_at n (expr_at n)) (λ rs. as_at (sign_at S_CLOSE_BRACE) (λ _.
    record { head = h; program = p; args = xs; files = fs; fetch = ts; parse = rs })))))
