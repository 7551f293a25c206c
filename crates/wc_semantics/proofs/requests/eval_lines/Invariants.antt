use Rattle.std.proofs.Common.{◌≡◌, ◌++◌, drop}
use Rattle.wc_expression.specs.Outcomes.{mapped}
use Rattle.wc_semantics.specs.Requests.{texts_of}
use Rattle.wc_semantics.proofs.requests.eval_lines.Given as goal

abbrev pub invariant-loop-line : goal.invariant-loop-line
invariant-loop-line l = mapped (λ ts. l.texts ++ ts) (texts_of (drop l.line-index l.lines) l.env) ≡ texts_of l.lines l.env
