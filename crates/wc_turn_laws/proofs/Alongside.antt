-- The statements of a step, with the nodes that they name beside the run's without.
use Rattle.std.proofs.Common.{◌≡◌, ℕ, zero, suc, ◌+◌, Bool, true, false, List, [], ◌∷◌, ◌++◌, Option, Some, None, map, length, refl, sym, ap, subst, ◌∙◌}
use Rattle.std.specs.Prelude.{if◌then◌else◌}
use Rattle.std.specs.Str.{bytes_eq}
use Rattle.std.proofs.lemmas.List.{map-append}
use Rattle.wc_value.specs.Ascending.{put, before}
use Rattle.wc_value.proofs.Puts.{same_name}
use Rattle.wc_value.specs.declared.process.Reason.TheVariants.{BadInput, Depth}
use Rattle.wc_value.specs.declared.value.Kind.{Kind}
use Rattle.wc_value.specs.declared.value.Value.{Value}
use Rattle.wc_syntax.specs.declared.expression.Expr.{Expr}
use Rattle.wc_syntax.specs.declared.outline.CallArg.{CallArg}
use Rattle.wc_syntax.specs.declared.outline.CallStmt.{CallStmt}
use Rattle.wc_syntax.specs.declared.outline.Stmt.{Stmt}
use Rattle.wc_syntax.specs.declared.outline.Stmt.TheVariants as stmt
use Rattle.wc_state.specs.Context.{Pairs, with_set}
use Rattle.wc_state.specs.declared.context.CtxRef.TheVariants as held
use Rattle.wc_state.specs.declared.environment.Env.{Env}
use Rattle.wc_state.specs.declared.environment.Item.{Item}
use Rattle.wc_state.specs.declared.environment.Item.TheVariants as item
use Rattle.wc_state.specs.declared.environment.NodeValue.{NodeValue}
use Rattle.wc_expression.specs.declared.outcome.Outcome.{Outcome}
use Rattle.wc_expression.specs.declared.outcome.Outcome.TheVariants.{Gives, Faults}
use Rattle.wc_expression.specs.Outcomes.{◌>>=◌, mapped}
use Rattle.wc_expression.specs.Val.{val}
use Rattle.wc_semantics.specs.Rules.{Values, is_taken, status_of}
use Rattle.wc_semantics.specs.declared.progress.Planned.{Planned}
use Rattle.wc_semantics.specs.declared.progress.Stepped.{Stepped}
use Rattle.wc_semantics.specs.declared.progress.Stepped.TheVariants.{Stops, Makes}
use Rattle.wc_semantics.specs.Statements as run
use Rattle.wc_semantics.specs.Statements.{names_data, keyed, with_key}
use Rattle.wc_semantics.specs.Tables.{Label}
use Rattle.wc_world.specs.Trees.{NamedValues}
use Rattle.wc_machine.specs.Rest.{item_alone, env_alone}
use Rattle.wc_machine.specs.Steps.{Argument, value_of, values_in, named_node, or_plain, output, arguments, Noted, stops, makes, or_stops, exits, with_plain, with_output, with_call, planned, collected, statements, Call}
use Rattle.wc_machine.specs.Steps as machine
use Rattle.wc_turn_laws.proofs.Unnumbered.{val_forgets}
use Rattle.wc_turn_laws.specs.OutlineLaws.{as_planned}
use Rattle.wc_turn_laws.specs.View.{View, IsSeenRight, item_in, context_in, values_of, env_in}
use Rattle.wc_turn_laws.proofs.Named.{mapped_same, its_value, argument_is, output_is, HasNode, output_has, seen_nodes, holds_alone}

-- ---- entries by name

put_over : {A B : Type 0} (f : A → B) (name : List ℕ) (x : A) (es : List (List ℕ × A)) → map (λ e. (e.0, f e.1)) (put name x es) ≡ put name (f x) (map (λ e. (e.0, f e.1)) es)
put_over f name x [] = refl
put_over f name x (e ∷ es) = by (before e.0 name) (bytes_eq e.0 name) (put_over f name x es)
  where
    by : (b c : Bool) → map (λ z. (z.0, f z.1)) (put name x es) ≡ put name (f x) (map (λ z. (z.0, f z.1)) es)
        → map (λ z. (z.0, f z.1)) (if b then e ∷ put name x es else if c then (name, x) ∷ es else (name, x) ∷ e ∷ es)
        ≡ (if b then (e.0, f e.1) ∷ put name (f x) (map (λ z. (z.0, f z.1)) es)
        else if c then (name, f x) ∷ map (λ z. (z.0, f z.1)) es
        else (name, f x) ∷ (e.0, f e.1) ∷ map (λ z. (z.0, f z.1)) es)
    by true c h = ap (λ (l : List _). (e.0, f e.1) ∷ l) h
    by false true h = refl
    by false false h = refl

in_map : (args : List (List ℕ × Argument)) → values_in args ≡ map (λ e. (e.0, value_of e.1)) args
in_map [] = refl
in_map (a ∷ rest) = ap (λ (l : Values). (a.0, value_of a.1) ∷ l) (in_map rest)

put_argument : (name : List ℕ) (x : Argument) (args : List (List ℕ × Argument)) → values_in (put name x args) ≡ put name (value_of x) (values_in args)
put_argument name x args = in_map (put name x args) ∙ put_over value_of name x args ∙ ap (put name (value_of x)) (sym (in_map args))

-- ---- a key that is set

-- an item without the numbers of nodes is set, where the item is
keyed_over : (f : Item → Item) (key : List ℕ) (x : Item) (es : List (List ℕ × Item)) → keyed key (f x) (map (λ e. (e.0, f e.1)) es) ≡ map (λ e. (e.0, f e.1)) (keyed key x es)
keyed_over f key x [] = refl
keyed_over f key x (e ∷ es) = by (bytes_eq e.0 key) (keyed_over f key x es)
  where
    by : (b : Bool) → keyed key (f x) (map (λ z. (z.0, f z.1)) es) ≡ map (λ z. (z.0, f z.1)) (keyed key x es)
        → (if b then (key, f x) ∷ map (λ z. (z.0, f z.1)) es else (e.0, f e.1) ∷ keyed key (f x) (map (λ z. (z.0, f z.1)) es))
        ≡ map (λ z. (z.0, f z.1)) (if b then (key, x) ∷ es else e ∷ keyed key x es)
    by true h = refl
    by false h = ap (λ (l : List _). (e.0, f e.1) ∷ l) h

keyed_alone : (key : List ℕ) (x : Value) (env : Env) → with_key key (item.Plain x) (env_alone env) ≡ env_alone (with_key key (item.Plain x) env)
keyed_alone key x env = ap (λ (items : List (List ℕ × Item)). record { inputs = (env_alone env).inputs; ctx = items }) (keyed_over item_alone key (item.Plain x) env.ctx)

either_way : (a b : List ℕ) → bytes_eq a b ≡ bytes_eq b a
either_way a b = by (bytes_eq a b) (bytes_eq b a) refl refl
  where
    by : (x y : Bool) → bytes_eq a b ≡ x → bytes_eq b a ≡ y → x ≡ y
    by true y p q = sym p ∙ subst (λ (z : List ℕ). bytes_eq a z ≡ bytes_eq z a) (same_name a b p) refl ∙ q
    by false true p q = sym p ∙ subst (λ (z : List ℕ). bytes_eq z b ≡ bytes_eq b z) (same_name b a q) refl ∙ q
    by false false p q = refl

-- a key that is set in a context is set in what is seen of it
set_seen : (v : View) (key : List ℕ) (x : Value) (ctx : Pairs) → keyed key (item.Plain x) (context_in v ctx) ≡ context_in v (with_set ctx key (held.Plain x))
set_seen v key x [] = refl
set_seen v key x (p ∷ ps) = ap (λ (b : Bool). if b then (key, item.Plain x) ∷ context_in v ps else (p.0, item_in v p.1) ∷ keyed key (item.Plain x) (context_in v ps)) (either_way p.0 key)
    ∙ by (bytes_eq key p.0) refl (set_seen v key x ps)
  where
    by : (b : Bool) → bytes_eq key p.0 ≡ b → keyed key (item.Plain x) (context_in v ps) ≡ context_in v (with_set ps key (held.Plain x))
        → (if b then (key, item.Plain x) ∷ context_in v ps else (p.0, item_in v p.1) ∷ keyed key (item.Plain x) (context_in v ps))
        ≡ context_in v (if b then (p.0, held.Plain x) ∷ ps else p ∷ with_set ps key (held.Plain x))
    by true e h = ap (λ (k : List ℕ). (k, item.Plain x) ∷ context_in v ps) (same_name key p.0 e)
    by false e h = ap (λ (l : List (List ℕ × Item)). (p.0, item_in v p.1) ∷ l) h

-- ---- arguments

arguments_then : (name : List ℕ) (o : Outcome Argument) (p : Outcome Value) (f : Argument → Outcome (List (List ℕ × Argument))) (g : Value → Outcome Values)
    → mapped value_of o ≡ p → ((x : Argument) → mapped values_in (f x) ≡ g (value_of x)) → mapped values_in (o >>= f) ≡ (p >>= g)
arguments_then name (Gives x) p f g h q = q x ∙ ap (λ (z : Outcome Value). z >>= g) h
arguments_then name (Faults r) p f g h q = ap (λ (z : Outcome Value). z >>= g) h

arguments_are : (as' : List CallArg) (env : Env) (args : List (List ℕ × Argument)) → mapped values_in (arguments as' env args) ≡ run.arguments as' (env_alone env) (values_in args)
arguments_are [] env args = refl
arguments_are (a ∷ rest) env args = arguments_then a.port.text (or_plain (named_node a.value env) (val a.value env)) (run.argument a.value (env_alone env)) _ _ (argument_is a.value env)
    (λ x. arguments_are rest env (put a.port.text x args) ∙ ap (λ (l : Values). run.arguments rest (env_alone env) l) (put_argument a.port.text x args))

-- ---- statements

taken_alone : (o : Option Expr) (env : Env) → is_taken o (env_alone env) ≡ is_taken o env
taken_alone None env = refl
taken_alone (Some x) env = holds_alone x env

module _ (v : View) (inputs : NamedValues) where
  -- what the statements give without nodes, beside what they give with them
  abbrev pub Alongside : machine.Stepped → Stepped → Type 0
  Alongside (stops s outputs) t = (env : Env) × (t ≡ Stops s env (values_of v outputs))
  Alongside (makes ctx outputs calls) t = t ≡ Makes (map as_planned calls) (env_alone (env_in v inputs ctx)) (values_of v outputs)

  abbrev pub noted : Pairs → List (Label × ℕ) → List Call → Noted
  noted ctx outputs calls = record { env = env_in v inputs ctx; ctx = ctx; outputs = outputs; calls = calls }

  along_or : {A B : Type 0} (view : A → B) (o : Outcome A) (p : Outcome B) (env : Env) (s : Noted) (f : A → machine.Stepped) (g : B → Stepped) → mapped view o ≡ p
      → ((x : A) → o ≡ Gives x → Alongside (f x) (g (view x))) → Alongside (or_stops o s f) (run.or_stops p env (values_of v s.outputs) g)
  along_or view (Gives x) p env s f g h q = subst (λ z. Alongside (f x) (run.or_stops z env (values_of v s.outputs) g)) h (q x refl)
  along_or view (Faults r) p env s f g h q = (env, ap (λ z. run.or_stops z env (values_of v s.outputs) g) (sym h))

  along_exits : (n : ℕ) (ctx : Pairs) (outputs : List (Label × ℕ)) (calls : List Call)
      → Alongside (exits n (noted ctx outputs calls)) (run.exits n (map as_planned calls) (env_alone (env_in v inputs ctx)) (values_of v outputs))
  along_exits zero ctx outputs calls = refl
  along_exits (suc n) ctx outputs calls = (_, refl)

  along_if : (b : Bool) (f f' : machine.Stepped) (g g' : Stepped) → Alongside f g → Alongside f' g' → Alongside (if b then f else f') (if b then g else g')
  along_if true f f' g g' p q = p
  along_if false f f' g g' p q = q

  has_value : (n : NodeValue) (o : Outcome NodeValue) → o ≡ Gives n → HasNode (λ m. v.value m.node ≡ m.value) o → v.value n.node ≡ n.value
  has_value n o q t = subst (HasNode (λ (m : NodeValue). v.value m.node ≡ m.value)) q t

  module _ (before : ℕ) (deep : Bool) (takes : List ℕ → Values → Bool) (kinds : List ℕ → Option Kind) where
    goods : (b : Bool) (c : CallStmt) (number : ℕ) (args : List (List ℕ × Argument))
        → mapped as_planned (if b then Gives (planned before deep takes kinds c number args) else Faults BadInput) ≡ (if b then Gives (run.planned c (values_in args)) else Faults BadInput)
    goods true c number args = refl
    goods false c number args = refl

    collected_with : (c : CallStmt) (number : ℕ) (o : Outcome (List (List ℕ × Argument))) (p : Outcome Values) → mapped values_in o ≡ p
        → mapped as_planned (o >>= (λ args. if takes c.callee.text (values_in args) then Gives (planned before deep takes kinds c number args) else Faults BadInput))
        ≡ (p >>= (λ vs. if takes c.callee.text vs then Gives (run.planned c vs) else Faults BadInput))
    collected_with c number (Gives args) p h = goods (takes c.callee.text (values_in args)) c number args
        ∙ ap (λ (z : Outcome Values). z >>= (λ vs. if takes c.callee.text vs then Gives (run.planned c vs) else Faults BadInput)) h
    collected_with c number (Faults r) p h = ap (λ (z : Outcome Values). z >>= (λ vs. if takes c.callee.text vs then Gives (run.planned c vs) else Faults BadInput)) h

    collected_if : (b : Bool) (o : Outcome Call) (p : Outcome Planned) → mapped as_planned o ≡ p → mapped as_planned (if b then Faults Depth else o) ≡ (if b then Faults Depth else p)
    collected_if true o p h = refl
    collected_if false o p h = h

    collected_is : (c : CallStmt) (s : Noted) → mapped as_planned (collected before deep takes kinds c s) ≡ run.collected deep takes c (env_alone s.env)
    collected_is c s = collected_if deep _ _ (collected_with c (before + length s.calls + 1) (arguments c.args s.env []) (run.arguments c.args (env_alone s.env) []) (arguments_are c.args s.env []))

    pub alongside : IsSeenRight v inputs → (ss : List Stmt) (ctx : Pairs) (outputs : List (Label × ℕ)) (calls : List Call)
        → Alongside (statements before deep takes kinds ss (noted ctx outputs calls))
        (run.statements deep takes kinds ss (map as_planned calls) (env_alone (env_in v inputs ctx)) (values_of v outputs))
    alongside seen [] ctx outputs calls = refl
    alongside seen (stmt.Ctx at key x ∷ ss) ctx outputs calls =
        along_or (λ (u : Value). u) (val x (env_in v inputs ctx)) (val x (env_alone (env_in v inputs ctx))) _ (noted ctx outputs calls) _ _
        (mapped_same (val x (env_in v inputs ctx)) ∙ sym (val_forgets x (env_in v inputs ctx)))
        (λ u q. subst (λ (items : List (List ℕ × Item)). Alongside
        (statements before deep takes kinds ss (record { env = record { inputs = inputs; ctx = items }; ctx = with_set ctx key.text (held.Plain u); outputs = outputs; calls = calls }))
        (run.statements deep takes kinds ss (map as_planned calls) (with_key key.text (item.Plain u) (env_alone (env_in v inputs ctx))) (values_of v outputs)))
        (sym (set_seen v key.text u ctx))
        (subst (λ (env : Env). Alongside
        (statements before deep takes kinds ss (noted (with_set ctx key.text (held.Plain u)) outputs calls))
        (run.statements deep takes kinds ss (map as_planned calls) env (values_of v outputs)))
        (sym (keyed_alone key.text u (env_in v inputs ctx) ∙ ap (λ (items : List (List ℕ × Item)). env_alone (record { inputs = inputs; ctx = items })) (set_seen v key.text u ctx)))
        (alongside seen ss (with_set ctx key.text (held.Plain u)) outputs calls)))
    alongside seen (stmt.Out at name x ∷ ss) ctx outputs calls =
        along_or its_value (output (kinds name.text) x (env_in v inputs ctx)) (run.output (kinds name.text) x (env_alone (env_in v inputs ctx))) _ (noted ctx outputs calls) _ _
        (output_is (kinds name.text) x (env_in v inputs ctx))
        (λ n q. let w : v.value n.node ≡ n.value = has_value n (output (kinds name.text) x (env_in v inputs ctx)) q
        (output_has (λ m. v.value m.node ≡ m.value) (kinds name.text) x (env_in v inputs ctx) (seen_nodes v inputs ctx seen)) in
        subst (λ (vs : Values). Alongside (statements before deep takes kinds ss (noted ctx (put name.text n.node outputs) calls))
        (run.statements deep takes kinds ss (map as_planned calls) (env_alone (env_in v inputs ctx)) vs))
        (put_over v.value name.text n.node outputs ∙ ap (λ (u : Value). put name.text u (values_of v outputs)) w)
        (alongside seen ss ctx (put name.text n.node outputs) calls))
    alongside seen (stmt.Exit x ∷ ss) ctx outputs calls =
        along_or (λ (b : Bool). b) (is_taken x.condition (env_in v inputs ctx)) (is_taken x.condition (env_alone (env_in v inputs ctx))) _ (noted ctx outputs calls) _ _
        (mapped_same (is_taken x.condition (env_in v inputs ctx)) ∙ sym (taken_alone x.condition (env_in v inputs ctx)))
        (λ b q. along_if b _ _ _ _ (along_exits (status_of x) ctx outputs calls) (alongside seen ss ctx outputs calls))
    alongside seen (stmt.Call c ∷ ss) ctx outputs calls =
        along_or as_planned (collected before deep takes kinds c (noted ctx outputs calls)) (run.collected deep takes c (env_alone (env_in v inputs ctx))) _ (noted ctx outputs calls) _ _
        (collected_is c (noted ctx outputs calls))
        (λ p q. subst (λ (ps : List Planned). Alongside (statements before deep takes kinds ss (noted ctx outputs (calls ++ p ∷ [])))
        (run.statements deep takes kinds ss ps (env_alone (env_in v inputs ctx)) (values_of v outputs)))
        (map-append as_planned calls (p ∷ [])) (alongside seen ss ctx outputs (calls ++ p ∷ [])))
