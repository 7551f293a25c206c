-- Statements in order, by what the first of them does.
use Rattle.std.proofs.Common.{◌≡◌, ℕ, ◌+◌, ◌<◌, Bool, false, List, [], ◌∷◌, ◌++◌, Option, length, drop, get_or, sym, ap, ◌∙◌}
use Rattle.std.specs.Prelude.{if◌then◌else◌}
use Rattle.std.proofs.lemmas.List.{at_drop_more}
use Rattle.wc_value.specs.Ascending.{put}
use Rattle.wc_value.specs.declared.value.Kind.{Kind}
use Rattle.wc_value.specs.declared.value.Value.{Value}
use Rattle.wc_syntax.specs.declared.definition.Exit.{Exit}
use Rattle.wc_syntax.specs.declared.expression.Expr.{Expr}
use Rattle.wc_syntax.specs.declared.expression.Name.{Name}
use Rattle.wc_syntax.specs.declared.outline.CallStmt.{CallStmt}
use Rattle.wc_syntax.specs.declared.outline.Stmt.{Stmt}
use Rattle.wc_syntax.specs.declared.outline.Stmt.TheVariants as stmt
use Rattle.wc_state.specs.declared.environment.Env.{Env}
use Rattle.wc_state.specs.declared.environment.Item.TheVariants.{Plain}
use Rattle.wc_expression.specs.declared.outcome.Outcome.{Outcome}
use Rattle.wc_expression.specs.declared.outcome.Outcome.TheVariants.{Gives}
use Rattle.wc_expression.specs.Val.{val}
use Rattle.wc_semantics.specs.Rules.{Values, is_taken, status_of}
use Rattle.wc_semantics.specs.declared.progress.Planned.{Planned}
use Rattle.wc_semantics.specs.declared.progress.Stepped.{Stepped}
use Rattle.wc_semantics.specs.Statements.{with_key, output, or_stops, exits, collected, statements}

module _ (deep : Bool) (takes : List ℕ → Values → Bool) (kinds : List ℕ → Option Kind) where
  abbrev pub come_to : List Stmt → List Planned → Env → Values → Stepped
  come_to = statements deep takes kinds

  pub ctx_step : (s : Stmt) (rest : List Stmt) (ps : List Planned) (env : Env) (outs : Values) (at : ℕ) (key : Name) (x : Expr) (v : Value)
      → s ≡ stmt.Ctx at key x → val x env ≡ Gives v → come_to (s ∷ rest) ps env outs ≡ come_to rest ps (with_key key.text (Plain v) env) outs
  ctx_step s rest ps env outs at key x v p q = ap (λ (y : Stmt). come_to (y ∷ rest) ps env outs) p
      ∙ ap (λ (o : Outcome Value). or_stops o env outs (λ w. come_to rest ps (with_key key.text (Plain w) env) outs)) q

  pub out_step : (s : Stmt) (rest : List Stmt) (ps : List Planned) (env : Env) (outs : Values) (at : ℕ) (name : Name) (x : Expr) (v : Value)
      → s ≡ stmt.Out at name x → output (kinds name.text) x env ≡ Gives v → come_to (s ∷ rest) ps env outs ≡ come_to rest ps env (put name.text v outs)
  out_step s rest ps env outs at name x v p q = ap (λ (y : Stmt). come_to (y ∷ rest) ps env outs) p
      ∙ ap (λ (o : Outcome Value). or_stops o env outs (λ w. come_to rest ps env (put name.text w outs))) q

  pub exit_step : (s : Stmt) (rest : List Stmt) (ps : List Planned) (env : Env) (outs : Values) (x : Exit)
      → s ≡ stmt.Exit x → is_taken x.condition env ≡ Gives false → come_to (s ∷ rest) ps env outs ≡ come_to rest ps env outs
  exit_step s rest ps env outs x p q = ap (λ (y : Stmt). come_to (y ∷ rest) ps env outs) p
      ∙ ap (λ (o : Outcome Bool). or_stops o env outs (λ b. if b then exits (status_of x) ps env outs else come_to rest ps env outs)) q

  pub call_step : (s : Stmt) (rest : List Stmt) (ps : List Planned) (env : Env) (outs : Values) (c : CallStmt) (planned : Planned)
      → s ≡ stmt.Call c → collected deep takes c env ≡ Gives planned → come_to (s ∷ rest) ps env outs ≡ come_to rest (ps ++ planned ∷ []) env outs
  call_step s rest ps env outs c planned p q = ap (λ (y : Stmt). come_to (y ∷ rest) ps env outs) p
      ∙ ap (λ (o : Outcome Planned). or_stops o env outs (λ w. come_to rest (ps ++ w ∷ []) env outs)) q

  -- the rest of the statements come to what all came to, where one of them has this effect
  pub passed : (ss : List Stmt) (i : ℕ) (s : Stmt) (ps ps' ps'' : List Planned) (env env' env'' : Env) (outs outs' outs'' : Values) (whole : Stepped)
      → i < length ss → s ≡ get_or ss i s → ps'' ≡ ps' → env'' ≡ env' → outs'' ≡ outs'
      → come_to (s ∷ drop (i + 1) ss) ps env outs ≡ come_to (drop (i + 1) ss) ps' env' outs'
      → come_to (drop i ss) ps env outs ≡ whole → come_to (drop (i + 1) ss) ps'' env'' outs'' ≡ whole
  passed ss i s ps ps' ps'' env env' env'' outs outs' outs'' whole h e p q r step known =
      (λ k. come_to (drop (i + 1) ss) (p k) (q k) (r k))
      ∙ sym (at_drop_more (λ (xs : List Stmt). come_to xs ps env outs) ss i s h ∙ ap (λ (x : Stmt). come_to (x ∷ drop (i + 1) ss) ps env outs) (sym e) ∙ step)
      ∙ known
