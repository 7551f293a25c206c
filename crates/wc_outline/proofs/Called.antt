-- The arguments of a call, and what is kept of them while they are evaluated.
use Rattle.std.proofs.Common.{◌≡◌, ℕ, ◌+◌, ◌<◌, Bool, true, false, List, [], ◌∷◌, Option, Some, None, length, get_or, drop, map, refl, sym, ap, ◌∙◌}
use Rattle.std.specs.Prelude.{if◌then◌else◌, ◌&&◌, is_some}
use Rattle.std.specs.List.{list_all}
use Rattle.std.specs.Str.{bytes_eq}
use Rattle.wc_value.specs.Ascending.{put, before}
use Rattle.wc_value.specs.declared.process.Reason.{Reason}
use Rattle.wc_value.specs.declared.value.Value.{Value}
use Rattle.wc_syntax.specs.Findings.{head_of, definition_named}
use Rattle.wc_syntax.specs.declared.definition.Definition.{Definition}
use Rattle.wc_syntax.specs.declared.outline.CallArg.{CallArg}
use Rattle.wc_syntax.specs.declared.outline.CallStmt.{CallStmt}
use Rattle.wc_state.specs.declared.environment.Env.{Env}
use Rattle.wc_expression.specs.declared.outcome.Outcome.{Outcome}
use Rattle.wc_expression.specs.declared.outcome.Outcome.TheVariants.{Gives, Faults}
use Rattle.wc_expression.specs.Outcomes.{◌>>=◌, mapped}
use Rattle.wc_expression.specs.Val.{val}
use Rattle.wc_semantics.specs.Meaning.{is_good, takes_inputs, takes_of}
use Rattle.wc_machine.specs.Steps as stepping
use Rattle.wc_machine.specs.Steps.{value_of, values_in, named_node, or_plain, arguments}
use Rattle.wc_outline.specs.declared.arguments.Gathered.{Gathered}
use Rattle.wc_outline.specs.declared.calls.Argument.{Argument}
use Rattle.wc_outline.specs.Arguments.{takes_at, with_argument, arguments_from, judged, taken_arguments, unless}
use Rattle.wc_outline.specs.Shown.{shown_argument, shown_arguments}
use Rattle.wc_outline.proofs.Gathered.{next}

put_over : {A B : Type 0} (f : List ℕ → A → B) (name : List ℕ) (x : A) (es : List (List ℕ × A))
    → map (λ e. (e.0, f e.0 e.1)) (put name x es) ≡ put name (f name x) (map (λ e. (e.0, f e.0 e.1)) es)
put_over f name x [] = refl
put_over f name x (e ∷ es) = by (before e.0 name) (bytes_eq e.0 name) (put_over f name x es)
  where
    by : (b c : Bool) → map (λ z. (z.0, f z.0 z.1)) (put name x es) ≡ put name (f name x) (map (λ z. (z.0, f z.0 z.1)) es)
        → map (λ z. (z.0, f z.0 z.1)) (if b then e ∷ put name x es else if c then (name, x) ∷ es else (name, x) ∷ e ∷ es)
        ≡ (if b then (e.0, f e.0 e.1) ∷ put name (f name x) (map (λ z. (z.0, f z.0 z.1)) es)
        else if c then (name, f name x) ∷ map (λ z. (z.0, f z.0 z.1)) es
        else (name, f name x) ∷ (e.0, f e.0 e.1) ∷ map (λ z. (z.0, f z.0 z.1)) es)
    by true c h = ap (λ (l : List _). (e.0, f e.0 e.1) ∷ l) h
    by false true h = refl
    by false false h = refl

abbrev Arguments : Type 0
Arguments = List (List ℕ × stepping.Argument)

-- what is kept of arguments
abbrev pub kept : (List ℕ → Value → Bool) → Arguments → Gathered
kept takes args = record { args = shown_arguments args; fit = map (λ a. (a.0, takes a.0 (value_of a.1))) args }

kept_put : (takes : List ℕ → Value → Bool) (port : List ℕ) (x : stepping.Argument) (args : Arguments) → with_argument takes port x (kept takes args) ≡ kept takes (put port x args)
kept_put takes port x args = λ i. record {
  args = sym (put_over (λ k y. shown_argument y) port x args) i;
  fit = sym (put_over (λ k y. takes k (value_of y)) port x args) i;
}

then_mapped : {A B C : Type 0} (o : Outcome A) (f : A → Outcome B) (g : A → Outcome C) (h : B → C) → ((x : A) → g x ≡ mapped h (f x)) → (o >>= g) ≡ mapped h (o >>= f)
then_mapped (Gives x) f g h q = q x
then_mapped (Faults r) f g h q = refl

gathered_is : (takes : List ℕ → Value → Bool) (as' : List CallArg) (env : Env) (args : Arguments) → arguments_from takes as' env (kept takes args) ≡ mapped (kept takes) (arguments as' env args)
gathered_is takes [] env args = refl
gathered_is takes (a ∷ rest) env args =
    then_mapped (or_plain (named_node a.value env) (val a.value env)) (λ x. arguments rest env (put a.port.text x args))
    (λ x. arguments_from takes rest env (with_argument takes a.port.text x (kept takes args))) (kept takes)
    (λ x. ap (arguments_from takes rest env) (kept_put takes a.port.text x args) ∙ gathered_is takes rest env (put a.port.text x args))

all_fit : (d : Definition) (args : Arguments) → list_all (λ f. f.1) (kept (takes_at (Some d)) args).fit ≡ list_all (is_good (head_of d).inputs) (values_in args)
all_fit d [] = refl
all_fit d (a ∷ rest) = ap (λ (b : Bool). is_good (head_of d).inputs (a.0, value_of a.1) && b) (all_fit d rest)

kept_judged : (callee : Option Definition) (args : Arguments)
    → judged (takes_inputs callee (values_in args)) (shown_arguments args)
    ≡ judged (is_some callee && list_all (λ f. f.1) (kept (takes_at callee) args).fit) (kept (takes_at callee) args).args
kept_judged None args = refl
kept_judged (Some d) args = ap (λ (b : Bool). judged b (shown_arguments args)) (sym (all_fit d args))

gives_same : {A : Type 0} (x y : A) → Gives x ≡ Gives y → x ≡ y
gives_same x y h = cc

judged_with : (callee : Option Definition) (o : Outcome Arguments) (g : Gathered) → mapped (kept (takes_at callee)) o ≡ Gives g
    → (o >>= (λ args. judged (takes_inputs callee (values_in args)) (shown_arguments args))) ≡ judged (is_some callee && list_all (λ f. f.1) g.fit) g.args
judged_with callee (Gives args) g h = kept_judged callee args
    ∙ ap (λ (z : Gathered). judged (is_some callee && list_all (λ f. f.1) z.fit) z.args) (gives_same (kept (takes_at callee) args) g h)
judged_with callee (Faults r) g h = absurd (cc)

faults_with : {A B : Type 0} (h : A → B) (o : Outcome A) (f : A → Outcome (List (List ℕ × Argument))) (r : Reason) → mapped h o ≡ Faults r → (o >>= f) ≡ Faults r
faults_with h (Gives x) f r p = absurd (cc)
faults_with h (Faults s) f r p = cc

-- ---- one argument after the other

module _ (f : List CallArg → Gathered → Outcome Gathered) (as' : List CallArg) (i : ℕ) (a : CallArg) (g g' : Gathered) (r : Option Reason) (all : Outcome Gathered)
    (h : i < length as') (e : a ≡ get_or as' i a) (step : (rest : List CallArg) → f (a ∷ rest) g ≡ unless r (f rest g')) (known : f (drop i as') g ≡ all) where
  all_is : all ≡ unless r (f (drop (i + 1) as') g')
  all_is = sym known ∙ next (λ (xs : List CallArg). f xs g) as' i a h e ∙ step (drop (i + 1) as')

  pub one_more : r ≡ None → f (drop (i + 1) as') g' ≡ all
  one_more n = sym (all_is ∙ ap (λ (z : Option Reason). unless z (f (drop (i + 1) as') g')) n)

  pub stopped : (reason : Reason) → r ≡ Some reason → all ≡ Faults reason
  stopped reason n = all_is ∙ ap (λ (z : Option Reason). unless z (f (drop (i + 1) as') g')) n

-- ---- the arguments of a call

module _ (library : List Definition) (c : CallStmt) (env : Env) (callee : Option Definition) (named : callee ≡ definition_named c.callee.text library) where
  abbrev whole : Outcome Gathered
  whole = arguments_from (takes_at callee) c.args env (record { args = []; fit = [] })

  pub all_taken : (g : Gathered) → whole ≡ Gives g → taken_arguments (takes_of library) c env ≡ judged (is_some callee && list_all (λ f. f.1) g.fit) g.args
  all_taken g h =
      ap (λ (d : Option Definition). arguments c.args env [] >>= (λ args. judged (takes_inputs d (values_in args)) (shown_arguments args))) (sym named)
      ∙ judged_with callee (arguments c.args env []) g (sym (gathered_is (takes_at callee) c.args env []) ∙ h)

  pub not_taken : (r : Reason) → whole ≡ Faults r → taken_arguments (takes_of library) c env ≡ Faults r
  not_taken r h = faults_with (kept (takes_at callee)) (arguments c.args env []) _ r (sym (gathered_is (takes_at callee) c.args env []) ∙ h)
