-- The statements of a step with what is answered of calls, beside those of the machine.
use Rattle.std.proofs.Common.{◌≡◌, ℕ, zero, suc, ◌+◌, Bool, true, false, List, [], ◌∷◌, length, map, refl, sym, ap, ◌∙◌}
use Rattle.std.specs.Prelude.{if◌then◌else◌, nat_le, reverse}
use Rattle.std.proofs.lemmas.List.{map-append, length-map}
use Rattle.wc_value.specs.declared.process.Reason.TheVariants.{BadInput, Depth}
use Rattle.wc_syntax.specs.declared.definition.Chain.{Chain}
use Rattle.wc_syntax.specs.declared.definition.Definition.{Definition}
use Rattle.wc_syntax.specs.declared.outline.CallStmt.{CallStmt}
use Rattle.wc_syntax.specs.declared.outline.Stmt.{Stmt}
use Rattle.wc_syntax.specs.declared.outline.Stmt.TheVariants as stmt
use Rattle.wc_state.specs.declared.environment.Env.{Env}
use Rattle.wc_state.specs.declared.record.Checkpoint.{Checkpoint}
use Rattle.wc_state.specs.declared.record.Frame.{Frame}
use Rattle.wc_expression.specs.declared.outcome.Outcome.{Outcome}
use Rattle.wc_expression.specs.declared.outcome.Outcome.TheVariants.{Gives, Faults}
use Rattle.wc_expression.specs.Outcomes.{◌>>=◌, mapped}
use Rattle.wc_expression.specs.Val.{val}
use Rattle.wc_semantics.specs.Rules.{is_taken, status_of}
use Rattle.wc_semantics.specs.Meaning.{kinds_of, takes_of}
use Rattle.wc_machine.specs.Advances.{after_step}
use Rattle.wc_machine.specs.Steps as machine
use Rattle.wc_machine.specs.Steps.{values_in, arguments, output, exits, collected}
use Rattle.wc_outline.specs.declared.calls.Call.{Call}
use Rattle.wc_outline.specs.declared.statements.Noted.{Noted}
use Rattle.wc_outline.specs.declared.statements.Scene.{Scene}
use Rattle.wc_outline.specs.Arguments.{taken_arguments}
use Rattle.wc_outline.specs.Shown.{shown_arguments, shown_call, shown}
use Rattle.wc_outline.specs.Statements.{Stepped, stops, makes, comes, left_by, or_stops, planned, collected_in, statements_in, came_to}

abbrev pub noted : machine.Noted → Noted
noted s = record { env = s.env; ctx = s.ctx; outputs = s.outputs; calls = map shown_call s.calls }

abbrev pub shown_step : machine.Stepped → Stepped
shown_step (machine.stops s outputs) = stops s outputs
shown_step (machine.makes ctx outputs calls) = makes ctx outputs (map shown_call calls)

or_shown : {A B : Type 0} (h : A → B) (o : Outcome A) (p : Outcome B) (s : machine.Noted) (f : A → machine.Stepped) (g : B → Stepped)
    → mapped h o ≡ p → ((x : A) → shown_step (f x) ≡ g (h x)) → shown_step (machine.or_stops o s f) ≡ or_stops p (noted s) g
or_shown h (Gives x) p s f g e q = q x ∙ ap (λ (z : Outcome _). or_stops z (noted s) g) e
or_shown h (Faults r) p s f g e q = ap (λ (z : Outcome _). or_stops z (noted s) g) e

mapped_same : {A : Type 0} (o : Outcome A) → mapped (λ x. x) o ≡ o
mapped_same (Gives x) = refl
mapped_same (Faults r) = refl

exits_shown : (n : ℕ) (s : machine.Noted) (f : Noted → Stepped) → shown_step (exits n s) ≡ comes (left_by n) (noted s) f
exits_shown zero s f = refl
exits_shown (suc n) s f = refl

either : (b : Bool) (t u : machine.Stepped) (t' u' : Stepped) → shown_step t ≡ t' → shown_step u ≡ u' → shown_step (if b then t else u) ≡ (if b then t' else u')
either true t u t' u' p q = p
either false t u t' u' p q = q

-- ---- a call

or_depth : {A B : Type 0} (h : A → B) (b : Bool) (o : Outcome A) (p : Outcome B) → mapped h o ≡ p → mapped h (if b then Faults Depth else o) ≡ (if b then Faults Depth else p)
or_depth h true o p e = refl
or_depth h false o p e = e

goods : {A B C : Type 0} (h : A → C) (k : B → C) (b : Bool) (x : A) (y : B) → h x ≡ k y
    → mapped h (if b then Gives x else Faults BadInput) ≡ mapped k (if b then Gives y else Faults BadInput)
goods h k true x y e = ap Gives e
goods h k false x y e = refl

both_mapped : {A B C D : Type 0} (o : Outcome A) (f : A → Outcome B) (g : A → Outcome C) (h : B → D) (k : C → D) → ((x : A) → mapped h (f x) ≡ mapped k (g x))
    → mapped h (o >>= f) ≡ mapped k (o >>= g)
both_mapped (Gives x) f g h k q = q x
both_mapped (Faults r) f g h k q = refl

module _ (x : Scene) where
  collected_is : (c : CallStmt) (s : machine.Noted)
      → mapped shown_call (collected x.calls (nat_le 16 x.depth) (takes_of x.library.now) (kinds_of x.chain.now.head.outputs) c s) ≡ collected_in x c (noted s)
  collected_is c s =
      let calls = x.calls in
      or_depth shown_call (nat_le 16 x.depth) _ _
      (both_mapped (arguments c.args s.env []) _ _ shown_call (planned c (calls + length s.calls + 1))
      (λ args. goods shown_call (planned c (calls + length s.calls + 1)) (takes_of x.library.now c.callee.text (values_in args)) _ (shown_arguments args) refl)
      ∙ ap (λ (n : ℕ). mapped (planned c (calls + n + 1)) (taken_arguments (takes_of x.library.now) c s.env)) (sym (length-map s.calls shown_call)))

  -- ---- statements in order

  pub statements_shown : (ss : List Stmt) (s : machine.Noted)
      → shown_step (machine.statements x.calls (nat_le 16 x.depth) (takes_of x.library.now) (kinds_of x.chain.now.head.outputs) ss s) ≡ statements_in x ss (noted s)
  statements_shown [] s = refl
  statements_shown (stmt.Ctx at key e ∷ ss) s =
      or_shown (λ v. v) (val e s.env) _ s _ _ (mapped_same (val e s.env)) (λ v. statements_shown ss (machine.with_plain key.text v s))
  statements_shown (stmt.Out at name e ∷ ss) s =
      or_shown (λ n. n.node) (output (kinds_of x.chain.now.head.outputs name.text) e s.env) _ s _ _ refl (λ n. statements_shown ss (machine.with_output name.text n.node s))
  statements_shown (stmt.Exit e ∷ ss) s =
      or_shown (λ b. b) (is_taken e.condition s.env) _ s _ _ (mapped_same (is_taken e.condition s.env))
      (λ b. either b _ _ _ _ (exits_shown (status_of e) s (statements_in x ss)) (statements_shown ss s))
  statements_shown (stmt.Call c ∷ ss) s =
      or_shown shown_call (collected x.calls (nat_le 16 x.depth) (takes_of x.library.now) (kinds_of x.chain.now.head.outputs) c s) _ s _ _ (collected_is c s)
      (λ p. statements_shown ss (machine.with_call p s)
      ∙ ap (λ (calls : List Call). statements_in x ss (record { env = s.env; ctx = s.ctx; outputs = s.outputs; calls = calls })) (map-append shown_call s.calls (p ∷ [])))

-- ---- what a step comes to

pub step_shown : (library : List Definition) (k : Chain) (depth : ℕ) (env : Env) (c : Checkpoint) (t : machine.Stepped) (fs : List Frame)
    → shown (after_step library k depth env c t fs) ≡ came_to c.awaiting c.calls (reverse fs) (shown_step t)
step_shown library k depth env c (machine.stops s outputs) fs = refl
step_shown library k depth env c (machine.makes ctx outputs []) fs = refl
step_shown library k depth env c (machine.makes ctx outputs (x ∷ xs)) fs = refl
