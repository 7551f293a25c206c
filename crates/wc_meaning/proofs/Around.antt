-- The definitions, by what surrounds a run.
use Rattle.std.proofs.Common.{◌≡◌, ℕ, ◌-◌, ◌<◌, ◌==◌, List, [], Option, Some, None, refl, sym, ap, ◌∙◌}
use Rattle.wc_value.specs.declared.process.JobResult.{JobResult}
use Rattle.wc_value.specs.declared.process.Request.{Request}
use Rattle.wc_syntax.specs.Findings.{definition_named}
use Rattle.wc_syntax.specs.declared.definition.Definition.{Definition}
use Rattle.wc_syntax.specs.declared.definition.Definition.TheVariants as definition
use Rattle.wc_syntax.specs.declared.definition.Function.{Function}
use Rattle.wc_syntax.specs.declared.definition.Job.{Job}
use Rattle.wc_syntax.specs.declared.outline.Stmt.{Stmt}
use Rattle.wc_semantics.specs.Rules.{Values, kind_of_port}
use Rattle.wc_semantics.specs.Requests.{request}
use Rattle.wc_semantics.specs.Outcomes.{calculated, parsed}
use Rattle.wc_semantics.specs.declared.progress.Answer.{Answer}
use Rattle.wc_semantics.specs.declared.progress.Answer.TheVariants.{Gave}
use Rattle.wc_semantics.specs.declared.progress.Progress.{Progress}
use Rattle.wc_semantics.specs.Tables.{Label, Path, plain, kills_of, rows_under}
use Rattle.wc_semantics.specs.Statements.{statements}
use Rattle.wc_semantics.specs.Run.{Around, after, step_of}
use Rattle.wc_semantics.specs.Meaning.{job, leaf, killed_first, by_kill, takes_of, meaning, around}
use Rattle.wc_semantics.proofs.Rows.{kills_under}
use Rattle.wc_meaning.specs.declared.statements.Setting.{Setting}
use Rattle.wc_meaning.specs.Settings.{around_in}
use Rattle.wc_meaning.proofs.Turns.{meaning_at, deep_at, takes_at, call_at}

-- a step, with what surrounds it as the program holds it
pub step_at : (s : Setting) (ss : List Stmt) (n : ℕ) (e : Progress)
    → step_of ss (around_in s) n e ≡ after (statements (s.levels == 0) (takes_of s.library.now) (λ name. kind_of_port name s.ports.now) ss [] e.env e.outputs) (around_in s) n e
step_at s ss n e = λ i. after (statements (deep_at s.levels s.library.now (plain s.table.now) (kills_of s.kills.now) i)
    (takes_at s.levels s.library.now (plain s.table.now) (kills_of s.kills.now) i) (λ name. kind_of_port name s.ports.now) ss [] e.env e.outputs) (around_in s) n e

-- a call, by what the program calls
pub called : (s : Setting) (l : Label) (n : ℕ) (name : List ℕ) (inputs : Values) → 0 < s.levels
    → (around_in s).call l n name inputs ≡ meaning (s.levels - 1) s.library.now (plain s.table.now) (kills_of (rows_under l s.kills.now)) n name inputs
called s l n name inputs h = call_at s.levels s.library.now (plain s.table.now) (kills_of s.kills.now) l n name inputs h
    ∙ sym (ap (λ k. meaning (s.levels - 1) s.library.now (plain s.table.now) k n name inputs) (kills_under l s.kills.now))

-- ---- the meaning, by the kill and the definition

module _ (levels : ℕ) (ds : List Definition) (table : List (Request × JobResult)) (kills : List (Path × ℕ)) (n : ℕ) (name : List ℕ) (inputs : Values) where
  abbrev meant : Answer
  meant = meaning levels ds (plain table) (kills_of kills) n name inputs

  abbrev surroundings : Around
  surroundings = around levels ds (plain table) (kills_of kills)

  means : (s : Option ℕ) (d : Option Definition) → s ≡ kills_of kills [] → d ≡ definition_named name ds
      → meant ≡ by_kill s d surroundings (plain table []) n name inputs
  means s d p q = meaning_at levels ds (plain table) (kills_of kills) n name inputs ∙ (λ i. by_kill (sym p i) (sym q i) surroundings (plain table []) n name inputs)

  pub means_killed : (s : Option ℕ) → s ≡ kills_of kills [] → s ≡ Some 0 → Gave (killed_first name) n ≡ meant
  means_killed s p h = sym (means (Some 0) (definition_named name ds) (sym h ∙ p) refl)

  pub means_function : (f : Function) → None ≡ kills_of kills [] → Some (definition.Function f) ≡ definition_named name ds → Gave (leaf name (calculated f inputs) []) n ≡ meant
  means_function f p q = sym (means None (Some (definition.Function f)) p q)

  pub means_job : (j : Job) → None ≡ kills_of kills [] → Some (definition.Job j) ≡ definition_named name ds
      → job name (request j inputs) (parsed j inputs) (plain table []) n ≡ meant
  means_job j p q = sym (means None (Some (definition.Job j)) p q)
