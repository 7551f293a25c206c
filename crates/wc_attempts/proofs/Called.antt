-- What calls of the job and of functions give in a library.
use Rattle.std.proofs.Common.{◌≡◌, ap, sym, subst, refl, ℕ, zero, suc, List, [], ◌∷◌, Option, Some, None}
use Rattle.wc_value.specs.declared.process.JobResult.{JobResult}
use Rattle.wc_value.specs.declared.process.Request.{Request}
use Rattle.wc_value.specs.declared.process.Tree.{out-Tree, out-roll-Tree}
use Rattle.wc_syntax.specs.Findings.{definition_named}
use Rattle.wc_syntax.specs.declared.definition.Definition.{Definition}
use Rattle.wc_syntax.specs.declared.definition.Definition.TheVariants as definition
use Rattle.wc_syntax.specs.declared.definition.Function.{Function}
use Rattle.wc_expression.specs.declared.outcome.Outcome.{Outcome}
use Rattle.wc_expression.specs.declared.outcome.Outcome.TheVariants.{Gives, Faults}
use Rattle.wc_semantics.specs.declared.outcomes.Parsed.{Parsed}
use Rattle.wc_semantics.specs.declared.progress.Answer.{Answer}
use Rattle.wc_semantics.specs.declared.progress.Answer.TheVariants.{Gave, Without}
use Rattle.wc_semantics.specs.declared.progress.Replayed.{Replayed}
use Rattle.wc_semantics.specs.Meaning.{by_kill, calls_of, leaf, meaning, surrounding, whole, by_result, job}
use Rattle.wc_semantics.specs.Outcomes.{calculated, excepted, parsed}
use Rattle.wc_semantics.specs.Requests.{request}
use Rattle.wc_semantics.specs.Rules.{Values}
use Rattle.wc_semantics.specs.Tables.{Path, plain, no_kills, row_of}
use Rattle.wc_attempts.specs.Attempts.{Attempted, ends, wants, Attempts, by_request, by_row, tried}

-- an answer is of this outcome, with so much fuel left
abbrev pub Answers : Attempted → ℕ → Answer → Type 0
Answers (ends p) m a = (t : Replayed) × (a ≡ Gave t m) × ((out-Tree t.tree).state ≡ p.state) × ((out-Tree t.tree).outputs ≡ p.outputs)
Answers (wants q) m a = a ≡ Without q

leaf_answers : (name : List ℕ) (p : Parsed) (asked : List (Path × Request)) (m : ℕ) → Answers (ends p) m (Gave (leaf name p asked) m)
leaf_answers name p asked m =
    let opens = out-roll-Tree (record { definition = name; state = p.state; outputs = p.outputs; calls = [] }) in
    (leaf name p asked, refl, ap (λ t. t.state) opens, ap (λ t. t.outputs) opens)

module _ (library : List Definition) (rows : List (Request × JobResult)) where
  -- a definition that isn't killed
  pub means : (levels m : ℕ) (name : List ℕ) (d : Definition) (v : Values) → definition_named name library ≡ Some d
      → meaning levels library (plain rows) no_kills m name v
      ≡ whole (Some d) (surrounding library (calls_of levels library (plain rows) no_kills)) (plain rows []) m name v
  means zero m name d v h = ap (λ x. by_kill None x (surrounding library None) (plain rows []) m name v) h
  means (suc levels) m name d v h =
      ap (λ x. by_kill None x (surrounding library (calls_of (suc levels) library (plain rows) no_kills)) (plain rows []) m name v) h

  rowed : (x : Attempts) (name : List ℕ) (v : Values) (q : Request) (o : Option JobResult) (m : ℕ)
      → Answers (by_row x v q o) m (by_result name (parsed x.job v) q o m)
  rowed x name v q None m = refl
  rowed x name v q (Some r) m = leaf_answers name (parsed x.job v r) (([], q) ∷ []) m

  requested : (x : Attempts) (name : List ℕ) (v : Values) (o : Outcome Request) (m : ℕ) → x.rows ≡ rows
      → Answers (by_request x v o) m (job name o (parsed x.job v) (plain rows []) m)
  requested x name v (Faults r) m h = leaf_answers name (excepted r []) [] m
  requested x name v (Gives q) m h = subst (λ rs. Answers (by_row x v q (row_of q x.rows)) m (by_result name (parsed x.job v) q (row_of q rs) m)) h (rowed x name v q (row_of q x.rows) m)

  -- a call of the job gives what it comes to
  pub job_called : (x : Attempts) (levels m : ℕ) (name : List ℕ) (v : Values) → x.rows ≡ rows → definition_named name library ≡ Some (definition.Job x.job)
      → Answers (tried x v) m (meaning levels library (plain rows) no_kills m name v)
  job_called x levels m name v r h =
      subst (Answers (tried x v) m) (sym (means levels m name (definition.Job x.job) v h)) (requested x name v (request x.job v) m r)

  -- and one of a function its outcome
  pub function_called : (levels m : ℕ) (name : List ℕ) (f : Function) (v : Values) → definition_named name library ≡ Some (definition.Function f)
      → Answers (ends (calculated f v)) m (meaning levels library (plain rows) no_kills m name v)
  function_called levels m name f v h =
      subst (Answers (ends (calculated f v)) m) (sym (means levels m name (definition.Function f) v h)) (leaf_answers name (calculated f v) [] m)
