-- The step that passes the outputs of the job on.
use Rattle.std.proofs.Common.{◌≡◌, ◌∙◌, ap, sym, refl, ℕ, Bool, true, List, [], ◌∷◌, ◌++◌, map, Option, Some}
use Rattle.std.specs.Prelude.{codes, if◌then◌else◌}
use Rattle.std.specs.List.{AllByRecursion}
use Rattle.wc_value.specs.Ascending.{Ascends, lookup, put}
use Rattle.wc_value.specs.declared.process.Reason.TheVariants.{NoOutput, WrongKind}
use Rattle.wc_value.specs.declared.value.Kind.{Kind}
use Rattle.wc_value.specs.declared.value.Value.{Value}
use Rattle.wc_syntax.specs.declared.definition.Port.{Port}
use Rattle.wc_syntax.specs.declared.outline.Stmt.{Stmt}
use Rattle.wc_state.specs.declared.environment.Env.{Env}
use Rattle.wc_state.specs.declared.environment.Item.TheVariants.{Plain}
use Rattle.wc_expression.specs.declared.outcome.Outcome.{Outcome}
use Rattle.wc_expression.specs.declared.outcome.Outcome.TheVariants.{Gives, Faults}
use Rattle.wc_expression.specs.Outcomes.{◌>>=◌, found}
use Rattle.wc_semantics.specs.Rules.{Values, fits_port, fitting}
use Rattle.wc_semantics.specs.Statements.{datum, or_stops, output, statements, with_key}
use Rattle.wc_semantics.specs.declared.progress.Stepped.{Stepped}
use Rattle.wc_semantics.specs.declared.progress.Stepped.TheVariants.{Makes}
use Rattle.wc_restart.specs.Pieces.{output_of, set, truth}
use Rattle.wc_attempts.specs.Attempts.{at_ports}
use Rattle.wc_restart.specs.Statements.{passed_on, passing}
use Rattle.wc_attempts.proofs.Arguments.{gathered, gathered_all, HasAll}
use Rattle.wc_attempts.proofs.Steps.{flagged}
use Rattle.wc_attempts.proofs.Values.{truth_gives}

module _ (deep : Bool) (takes : List ℕ → Values → Bool) (kinds : List ℕ → Option Kind) (env : Env) (v : Values) where
  -- the job's outputs have a value of its kind for the port
  pub record Passes (p : Port) : Type 0 where
    pub given : datum (output_of (codes "job") p.name.text) env ≡ found NoOutput (lookup p.name.text v)
    pub fits : (x : Value) → lookup p.name.text v ≡ Some x → fits_port (kinds p.name.text) x ≡ true

  abbrev PassesAll : List Port → Type 0
  PassesAll = AllByRecursion Passes

  output_is : (p : Port) (x : Value) → Passes p → lookup p.name.text v ≡ Some x → output (kinds p.name.text) (output_of (codes "job") p.name.text) env ≡ Gives x
  output_is p x t e =
      ap (λ o. o >>= fitting (kinds p.name.text)) (t.given ∙ ap (found NoOutput) e)
      ∙ ap (λ (b : Bool). if b then Gives x else Faults WrongKind) (t.fits x e)

  -- where all is gathered the other statements follow
  abbrev goes_with : List Stmt → Outcome Values → Stepped
  goes_with rest (Gives full) = statements deep takes kinds rest [] env full
  goes_with rest (Faults r) = Makes [] env []

  passed : (ps : List Port) (rest : List Stmt) (acc : Values) → PassesAll ps → HasAll v ps
      → statements deep takes kinds (map passed_on ps ++ rest) [] env acc ≡ goes_with rest (gathered ps v acc)
  passed [] rest acc t h = refl
  passed (p ∷ ps) rest acc t h =
      let x : Value = h.0.0 in
      let e : lookup p.name.text v ≡ Some x = h.0.1 in
      let more : Values = put p.name.text x acc in
      ap (λ o. or_stops o env acc (λ y. statements deep takes kinds (map passed_on ps ++ rest) [] env (put p.name.text y acc))) (output_is p x t.0 e)
      ∙ passed ps rest more t.1 h.1
      ∙ sym (ap (λ o. goes_with rest (found NoOutput o >>= (λ y. gathered ps v (put p.name.text y acc)))) e)

  -- the outputs at the ports are the chain's
  pub passing_goes : (ps : List Port) → PassesAll ps → HasAll v ps → Ascends v
      → statements deep takes kinds (passing ps) [] env [] ≡ Makes [] (flagged (codes "done") true env) (at_ports ps v)
  passing_goes ps t h a =
      passed ps (set (codes "done") (truth true) ∷ []) [] t h
      ∙ ap (goes_with (set (codes "done") (truth true) ∷ [])) (gathered_all ps v h a)
      ∙ ap (λ o. or_stops o env (at_ports ps v) (λ y. statements deep takes kinds [] [] (with_key (codes "done") (Plain y) env) (at_ports ps v))) (truth_gives env true)
