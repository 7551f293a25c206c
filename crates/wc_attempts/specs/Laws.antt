-- What the meaning of an expanded library is.
use Rattle.std.specs.Prelude.{◌≡◌, ℕ, ◌*◌, ◌≤◌, false, List, [], ◌∷◌, Some, None}
use Rattle.wc_value.specs.Ascending.{put}
use Rattle.wc_value.specs.declared.process.JobResult.{JobResult}
use Rattle.wc_value.specs.declared.process.Request.{Request}
use Rattle.wc_value.specs.declared.process.Tree.{out-Tree}
use Rattle.wc_syntax.specs.declared.definition.Definition.{Definition}
use Rattle.wc_syntax.specs.declared.definition.Job.{Job}
use Rattle.wc_semantics.specs.declared.progress.Answer.{Answer}
use Rattle.wc_semantics.specs.declared.progress.Answer.TheVariants.{Gave, Without}
use Rattle.wc_semantics.specs.Meaning.{meaning}
use Rattle.wc_semantics.specs.Rules.{Values}
use Rattle.wc_semantics.specs.Tables.{plain, no_kills}
use Rattle.wc_meaning.specs.Inputs.{bad_input}
use Rattle.wc_handlers.specs.declared.spec.Spec.{Spec}
use Rattle.wc_attempts.specs.Attempts.{Attempted, ends, wants, Attempts, attempt}
use Rattle.wc_restart.specs.Ports.{job_named, function_named, asked_of}

-- an answer has the state and the outputs that the attempts have, or the request that the table lacks
abbrev pub Meets : Attempted → Answer → Type 0
Meets (ends p) (Gave t m) = ((out-Tree t.tree).state ≡ p.state) × ((out-Tree t.tree).outputs ≡ p.outputs)
Meets (wants q) (Without r) = q ≡ r
Meets _ _ = ⊥

-- the attempts of a spec, with the functions of a library and the rows of a table
abbrev pub attempts_of : List Definition → Spec → Job → List (Request × JobResult) → Attempts
attempts_of library s j rows = record { job = j; handlers = s.handlers; function = λ name. function_named name library; rows = rows }

-- Inputs by name, in the order of their names. Where a name stands twice, the first counts.
abbrev pub in_order : Values → Values
in_order [] = []
in_order (v ∷ vs) = put v.0 v.1 (in_order vs)

-- For every table by request alone, good inputs, a depth up to 15 and fuel of at least three for each attempt, the chain comes to what
-- its attempts do.
abbrev pub Restarts : List Definition → Spec → List Definition → Type 0
Restarts library s expanded =
    (j : Job) → job_named s.job library ≡ Some j → (rows : List (Request × JobResult)) (levels n : ℕ) (v : Values) → 1 ≤ levels → levels ≤ 15 → 3 * s.most ≤ n
    → bad_input (asked_of s.job library) v ≡ None
    → Meets (attempt s.most (attempts_of library s j rows) (in_order v) false) (meaning levels expanded (plain rows) no_kills n s.name v)
