-- What the statements of a step come to: no kill, and calls that may be made and whose callees take their inputs.
use Rattle.std.proofs.Common.{◌≡◌, ℕ, zero, suc, Bool, true, false, List, [], ◌∷◌, ◌++◌, Option, refl}
use Rattle.std.specs.Prelude.{if◌then◌else◌}
use Rattle.wc_value.specs.declared.value.Kind.{Kind}
use Rattle.wc_value.specs.declared.process.Reason.TheVariants.{Depth, BadInput}
use Rattle.wc_syntax.specs.declared.outline.CallStmt.{CallStmt}
use Rattle.wc_syntax.specs.declared.outline.Stmt.{Stmt}
use Rattle.wc_syntax.specs.declared.outline.Stmt.TheVariants as stmt
use Rattle.wc_state.specs.declared.environment.Env.{Env}
use Rattle.wc_expression.specs.declared.outcome.Outcome.{Outcome}
use Rattle.wc_expression.specs.declared.outcome.Outcome.TheVariants.{Gives, Faults}
use Rattle.wc_expression.specs.Outcomes.{◌>>=◌}
use Rattle.wc_expression.specs.Val.{val}
use Rattle.wc_semantics.specs.Rules.{Values, is_taken, status_of}
use Rattle.wc_semantics.specs.declared.progress.Planned.{Planned}
use Rattle.wc_semantics.specs.declared.progress.Stepped.{Stepped}
use Rattle.wc_semantics.specs.declared.progress.Stepped.TheVariants.{Stops, Makes}
use Rattle.wc_semantics.specs.Statements.{or_stops, output, arguments, planned, exits, collected, statements}
use Rattle.wc_semantics.specs.Meaning.{is_killed}
use Rattle.wc_semantics.proofs.Induction.{AllOf}

-- a call that may be made
abbrev pub Callable : Bool → (List ℕ → Values → Bool) → Planned → Type 0
Callable deep takes p = (deep ≡ false) × (takes p.callee p.inputs ≡ true)

module _ (deep : Bool) (takes : List ℕ → Values → Bool) where
  abbrev pub Fine : Stepped → Type 0
  Fine (Stops s e outs) = is_killed s ≡ false
  Fine (Makes ps e outs) = AllOf (Callable deep takes) ps

  abbrev AllGives : {A : Type 0} → (A → Type 0) → Outcome A → Type 0
  AllGives Q (Gives v) = Q v
  AllGives Q (Faults r) = Unit {0}

  or_fine : {A : Type 0} (Q : A → Type 0) (o : Outcome A) (e : Env) (outs : Values) (f : A → Stepped) → AllGives Q o → ((v : A) → Q v → Fine (f v)) → Fine (or_stops o e outs f)
  or_fine Q (Gives v) e outs f q p = p v q
  or_fine Q (Faults r) e outs f q p = refl

  any : {A : Type 0} (o : Outcome A) → AllGives (λ v. Unit {0}) o
  any (Gives v) = tt
  any (Faults r) = tt

  if_fine : (b : Bool) (f g : Stepped) → Fine f → Fine g → Fine (if b then f else g)
  if_fine true f g p q = p
  if_fine false f g p q = q

  exits_fine : (n : ℕ) (ps : List Planned) (e : Env) (outs : Values) → AllOf (Callable deep takes) ps → Fine (exits n ps e outs)
  exits_fine zero ps e outs t = t
  exits_fine (suc n) ps e outs t = refl

  one_more : (ps : List Planned) (p : Planned) → AllOf (Callable deep takes) ps → Callable deep takes p → AllOf (Callable deep takes) (ps ++ p ∷ [])
  one_more [] p t c = (c, tt)
  one_more (x ∷ xs) p t c = (t.0, one_more xs p t.1 c)

  taken_inputs : (s : CallStmt) (vs : Values) (b : Bool) → deep ≡ false → takes s.callee.text vs ≡ b
      → AllGives (Callable deep takes) (if b then Gives (planned s vs) else Faults BadInput)
  taken_inputs s vs true h k = (h, k)
  taken_inputs s vs false h k = tt

  given_inputs : (s : CallStmt) (o : Outcome Values) → deep ≡ false
      → AllGives (Callable deep takes) (o >>= (λ vs. if takes s.callee.text vs then Gives (planned s vs) else Faults BadInput))
  given_inputs s (Gives vs) h = taken_inputs s vs (takes s.callee.text vs) h refl
  given_inputs s (Faults r) h = tt

  by_depth : (s : CallStmt) (e : Env) (b : Bool) → deep ≡ b
      → AllGives (Callable deep takes) (if b then Faults Depth else (arguments s.args e [] >>= (λ vs. if takes s.callee.text vs then Gives (planned s vs) else Faults BadInput)))
  by_depth s e true h = tt
  by_depth s e false h = given_inputs s (arguments s.args e []) h

  pub fine : (kinds : List ℕ → Option Kind) (ss : List Stmt) (ps : List Planned) (e : Env) (outs : Values) → AllOf (Callable deep takes) ps
      → Fine (statements deep takes kinds ss ps e outs)
  fine kinds [] ps e outs t = t
  fine kinds (stmt.Ctx at name x ∷ ss) ps e outs t = or_fine (λ v. Unit {0}) (val x e) e outs _ (any (val x e)) (λ v u. fine kinds ss ps _ outs t)
  fine kinds (stmt.Out at name x ∷ ss) ps e outs t = or_fine (λ v. Unit {0}) (output (kinds name.text) x e) e outs _ (any (output (kinds name.text) x e)) (λ v u. fine kinds ss ps e _ t)
  fine kinds (stmt.Exit x ∷ ss) ps e outs t = or_fine (λ v. Unit {0}) (is_taken x.condition e) e outs _ (any (is_taken x.condition e))
      (λ b u. if_fine b _ _ (exits_fine (status_of x) ps e outs t) (fine kinds ss ps e outs t))
  fine kinds (stmt.Call s ∷ ss) ps e outs t = or_fine (Callable deep takes) (collected deep takes s e) e outs _ (by_depth s e deep refl)
      (λ p c. fine kinds ss (ps ++ p ∷ []) e outs (one_more ps p t c))
