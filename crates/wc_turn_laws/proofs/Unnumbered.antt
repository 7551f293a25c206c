-- The value of an expression doesn't hang on the numbers of nodes.
use Rattle.std.proofs.Common.{◌≡◌, ℕ, ℤ, zero, suc, pos, negsuc, Bool, true, false, List, [], ◌∷◌, Option, Some, None, map, refl, sym, ap, subst, ◌∙◌}
use Rattle.std.specs.Prelude.{if◌then◌else◌, is_some, option_map, slice_get}
use Rattle.std.specs.Str.{bytes_eq}
use Rattle.std.proofs.lemmas.List.{length-map}
use Rattle.wc_value.specs.Ascending.{lookup}
use Rattle.wc_value.specs.declared.process.Reason.{Reason}
use Rattle.wc_value.specs.declared.process.Reason.TheVariants.{MissingKey, NoOutput}
use Rattle.wc_value.specs.declared.value.Value.{Value, out-Value}
use Rattle.wc_value.specs.declared.value.Value.TheOpen.{Value-F}
use Rattle.wc_value.specs.declared.value.Value.TheVariants as value
use Rattle.wc_syntax.specs.declared.expression.ChildPart.{ChildPart}
use Rattle.wc_syntax.specs.declared.expression.ChildPart.TheVariants as part
use Rattle.wc_syntax.specs.declared.expression.Expr.{Expr, Expr-F, roll-Expr, ind-Expr, fold-roll-Expr}
use Rattle.wc_syntax.specs.declared.expression.Form.{Form, roll-Form, map-Form, fold-roll-Form}
use Rattle.wc_syntax.specs.declared.expression.Form.TheOpen.{Form-F}
use Rattle.wc_state.specs.declared.environment.Child.{Child}
use Rattle.wc_state.specs.declared.environment.Env.{Env}
use Rattle.wc_state.specs.declared.environment.Item.{Item}
use Rattle.wc_state.specs.declared.environment.Item.TheVariants as item
use Rattle.wc_state.specs.declared.environment.NodeValue.{NodeValue}
use Rattle.wc_expression.specs.declared.outcome.Outcome.{Outcome}
use Rattle.wc_expression.specs.declared.outcome.Outcome.TheVariants.{Gives, Faults}
use Rattle.wc_expression.specs.Contents.{item_at, Seen}
use Rattle.wc_expression.specs.Contents as contents
use Rattle.wc_expression.specs.Environment.{input, is_given, plain, plain_of, child, child_of, children, children_of, count, count_of, asked}
use Rattle.wc_expression.specs.Operators.{operated, settles, prefixed, of_one, of_two}
use Rattle.wc_expression.specs.Outcomes.{◌>>=◌, mapped, found}
use Rattle.wc_expression.specs.Val.{Meant, all_of, form, limited, sized, val, val_form}
use Rattle.wc_machine.specs.Rest.{child_alone, item_alone, env_alone}
use Rattle.wc_turn_laws.specs.RunLaws.{ValuesForgetNumbers}

-- ---- what is read

pub lookup_mapped : {A B : Type 0} (f : A → B) (name : List ℕ) (es : List (List ℕ × A)) → lookup name (map (λ e. (e.0, f e.1)) es) ≡ option_map f (lookup name es)
lookup_mapped f name [] = refl
lookup_mapped f name (e ∷ es) = by_test (bytes_eq e.0 name) (lookup_mapped f name es)
  where
    by_test : (b : Bool) → lookup name (map (λ x. (x.0, f x.1)) es) ≡ option_map f (lookup name es)
        → (if b then Some (f e.1) else lookup name (map (λ x. (x.0, f x.1)) es)) ≡ option_map f (if b then Some e.1 else lookup name es)
    by_test true h = refl
    by_test false h = h

-- a value without the number of its node
abbrev alone : NodeValue → NodeValue
alone n = record { node = 0; value = n.value }

same_value : (r : Reason) (o : Option NodeValue) → mapped (λ i. i.value) (found r (option_map alone o)) ≡ mapped (λ i. i.value) (found r o)
same_value r None = refl
same_value r (Some n) = refl

same_given : (o : Option NodeValue) → is_some (option_map alone o) ≡ is_some o
same_given None = refl
same_given (Some n) = refl

input_alone : (name : List ℕ) (env : Env) → input name (env_alone env) ≡ input name env
input_alone name env = ap (λ (o : Option NodeValue). mapped (λ i. i.value) (found MissingKey o)) (lookup_mapped alone name env.inputs) ∙ same_value MissingKey (lookup name env.inputs)

given_alone : (name : List ℕ) (env : Env) → is_given name (env_alone env) ≡ is_given name env
given_alone name env = ap (λ (o : Option NodeValue). is_some o) (lookup_mapped alone name env.inputs) ∙ same_given (lookup name env.inputs)

asked_alone : (p : ChildPart) (c : Child) → asked p (child_alone c) ≡ asked p c
asked_alone (part.Outputs name) c =
    ap (λ (o : Option NodeValue). mapped (λ i. i.value) (found NoOutput o)) (lookup_mapped alone name.text c.outputs) ∙ same_value NoOutput (lookup name.text c.outputs)
asked_alone part.Status c = refl
asked_alone part.Ok c = refl

plain_of_alone : (o : Option Item) → (found MissingKey (option_map item_alone o) >>= plain_of) ≡ (found MissingKey o >>= plain_of)
plain_of_alone None = refl
plain_of_alone (Some (item.Plain v)) = refl
plain_of_alone (Some (item.One c)) = refl
plain_of_alone (Some (item.Many cs)) = refl

child_of_alone : (p : ChildPart) (o : Option Item) → ((found MissingKey (option_map item_alone o) >>= child_of) >>= asked p) ≡ ((found MissingKey o >>= child_of) >>= asked p)
child_of_alone p None = refl
child_of_alone p (Some (item.Plain v)) = refl
child_of_alone p (Some (item.One c)) = asked_alone p c
child_of_alone p (Some (item.Many cs)) = refl

children_of_alone : (o : Option Item) → (found MissingKey (option_map item_alone o) >>= children_of) ≡ mapped (map child_alone) (found MissingKey o >>= children_of)
children_of_alone None = refl
children_of_alone (Some (item.Plain v)) = refl
children_of_alone (Some (item.One c)) = refl
children_of_alone (Some (item.Many cs)) = refl

count_of_alone : (o : Option Item) → count_of (option_map item_alone o) ≡ count_of o
count_of_alone None = refl
count_of_alone (Some (item.Plain v)) = refl
count_of_alone (Some (item.One c)) = refl
count_of_alone (Some (item.Many cs)) = ap (λ (n : ℕ). Gives (pos n)) (length-map cs child_alone)

plain_alone : (key : List ℕ) (env : Env) → plain key (env_alone env) ≡ plain key env
plain_alone key env = ap (λ (o : Option Item). found MissingKey o >>= plain_of) (lookup_mapped item_alone key env.ctx) ∙ plain_of_alone (lookup key env.ctx)

count_alone : (key : List ℕ) (env : Env) → count key (env_alone env) ≡ count key env
count_alone key env = ap (λ (o : Option Item). count_of o) (lookup_mapped item_alone key env.ctx) ∙ count_of_alone (lookup key env.ctx)

asked_of_child : (key : List ℕ) (p : ChildPart) (env : Env) → (child key (env_alone env) >>= asked p) ≡ (child key env >>= asked p)
asked_of_child key p env =
    ap (λ (o : Option Item). (found MissingKey o >>= child_of) >>= asked p) (lookup_mapped item_alone key env.ctx) ∙ child_of_alone p (lookup key env.ctx)

children_alone : (key : List ℕ) (env : Env) → children key (env_alone env) ≡ mapped (map child_alone) (children key env)
children_alone key env = ap (λ (o : Option Item). found MissingKey o >>= children_of) (lookup_mapped item_alone key env.ctx) ∙ children_of_alone (lookup key env.ctx)

-- ---- the child at a number

place_alone : (p : ChildPart) (cs : List Child) (n : ℕ) → (found MissingKey (slice_get (map child_alone cs) n) >>= asked p) ≡ (found MissingKey (slice_get cs n) >>= asked p)
place_alone p [] n = refl
place_alone p (c ∷ cs) zero = asked_alone p c
place_alone p (c ∷ cs) (suc n) = place_alone p cs n

item_alone_at : (p : ChildPart) (cs : List Child) (v : Seen) → (contents.item (map child_alone cs) v >>= asked p) ≡ (contents.item cs v >>= asked p)
item_alone_at p cs (Value-F.Int (pos n)) = place_alone p cs n
item_alone_at p cs (Value-F.Int (negsuc n)) = refl
item_alone_at p cs (Value-F.Bool b) = refl
item_alone_at p cs (Value-F.Text t) = refl
item_alone_at p cs (Value-F.List vs) = refl
item_alone_at p cs (Value-F.Dict ps) = refl
item_alone_at p cs (Value-F.Folder fs) = refl

at_alone : (p : ChildPart) (cs : List Child) (o : Outcome Value)
    → (o >>= (λ i. contents.item (map child_alone cs) (out-Value i) >>= asked p)) ≡ (o >>= (λ i. contents.item cs (out-Value i) >>= asked p))
at_alone p cs (Gives i) = item_alone_at p cs (out-Value i)
at_alone p cs (Faults r) = refl

chosen_alone : (p : ChildPart) (cs : Outcome (List Child)) (o : Outcome Value)
    → (mapped (map child_alone) cs >>= (λ xs. o >>= (λ i. contents.item xs (out-Value i) >>= asked p)))
    ≡ (cs >>= (λ xs. o >>= (λ i. contents.item xs (out-Value i) >>= asked p)))
chosen_alone p (Gives cs) o = at_alone p cs o
chosen_alone p (Faults r) o = refl

-- ---- expressions

-- a meaning that forgets numbers
abbrev pub Forgets : Meant → Type 0
Forgets m = (env : Env) → m (env_alone env) ≡ m env

module _ {S S' : Type 0} (v : S → Form) (v' : S' → Expr) (p' : (s : S') → Forgets (val (v' s))) where
  abbrev pub opened : Form-F S S' → Form-F Form Expr
  opened y = map-Form S S' Form Expr v v' y

  abbrev meant : Form-F S S' → Form-F Meant Meant
  meant y = map-Form Form Expr Meant Meant val_form val (opened y)

  each : (ss : List S') (env : Env) → all_of (map val (map v' ss)) (env_alone env) ≡ all_of (map val (map v' ss)) env
  each [] env = refl
  each (s ∷ ss) env = λ i. p' s env i >>= (λ x. each ss env i >>= (λ xs. Gives (x ∷ xs)))

  middle : (y : Form-F S S') → Forgets (form (meant y))
  middle (Form-F.Number n) env = refl
  middle (Form-F.Quoted q) env = refl
  middle (Form-F.Truth b) env = refl
  middle (Form-F.Bare name) env = input_alone name.text env
  middle (Form-F.Input at name) env = input_alone name.text env
  middle (Form-F.Plain at name) env = plain_alone name.text env
  middle (Form-F.Child at name None p) env = asked_of_child name.text p env
  middle (Form-F.Child at name (Some e) p) env =
      (λ i. children_alone name.text env i >>= (λ cs. p' e env i >>= (λ x. contents.item cs (out-Value x) >>= asked p)))
      ∙ chosen_alone p (children name.text env) (val (v' e) env)
  middle (Form-F.Unary op a) env = ap (λ (o : Outcome Value). o >>= (λ x. prefixed op (out-Value x))) (p' a env)
  middle (Form-F.Binary op a b) env = λ i. p' a env i >>= (λ x. if settles op (out-Value x) then Gives x else (p' b env i >>= operated op x))
  middle (Form-F.One word a) env = ap (λ (o : Outcome Value). o >>= (λ x. of_one word (out-Value x))) (p' a env)
  middle (Form-F.Two word a b) env = λ i. p' a env i >>= (λ x. p' b env i >>= (λ y. of_two word (out-Value x) (out-Value y)))
  middle (Form-F.GivenBare name) env = ap (λ (b : Bool). Gives (value.Bool b)) (given_alone name.text env)
  middle (Form-F.GivenInput at name) env = ap (λ (b : Bool). Gives (value.Bool b)) (given_alone name.text env)
  middle (Form-F.Count at name) env = ap (λ (o : Outcome ℤ). mapped value.Int o) (count_alone name.text env)
  middle (Form-F.List es) env = ap (λ (o : Outcome (List Value)). mapped value.List o) (each es env)

  pub form_forgets : (y : Form-F S S') → Forgets (val_form (roll-Form (opened y)))
  form_forgets y env =
      let is : val_form (roll-Form (opened y)) ≡ form (meant y) = fold-roll-Form Meant Meant form limited (opened y) in
      ap (λ (m : Meant). m (env_alone env)) is ∙ middle y env ∙ sym (ap (λ (m : Meant). m env) is)

pub expr_forgets : (e : Expr-F Form Expr) → Forgets (val_form e.form) → Forgets (val (roll-Expr e))
expr_forgets e h env =
    let is = fold-roll-Expr Meant Meant form limited e in
    ap (λ (m : Meant). m (env_alone env)) is ∙ ap sized (h env) ∙ sym (ap (λ (m : Meant). m env) is)

pub val_forgets : (e : Expr) → Forgets (val e)
val_forgets = ind-Expr (λ f. Forgets (val_form f)) (λ e. Forgets (val e))
    (λ x y e. subst (λ (z : Form-F Form Expr). Forgets (val_form (roll-Form z))) e (form_forgets (λ s. s.0) (λ s. s.0) (λ s. s.1) y))
    (λ x y e. subst (λ (z : Expr-F Form Expr). Forgets (val (roll-Expr z))) e (expr_forgets (record { at = y.at; form = y.form.0 }) y.form.1))

pub values_forget_numbers : ValuesForgetNumbers
values_forget_numbers x d e same = sym (val_forgets x d) ∙ ap (val x) same ∙ val_forgets x e
