-- The nodes that expressions name, and the values that they have.
use Rattle.std.proofs.Common.{◌≡◌, ℕ, zero, suc, pos, negsuc, Bool, true, false, List, [], ◌∷◌, Option, Some, None, refl, sym, ap, subst, ◌∙◌}
use Rattle.std.specs.Prelude.{if◌then◌else◌, All, slice_get}
use Rattle.std.specs.Str.{bytes_eq}
use Rattle.std.proofs.lemmas.List.Elements.{All-head, All-tail, All-map, All-nil, All-cons}
use Rattle.wc_value.specs.Ascending.{lookup}
use Rattle.wc_value.specs.declared.process.Reason.{Reason}
use Rattle.wc_value.specs.declared.process.Reason.TheVariants.{MissingKey, NoOutput, WrongKind}
use Rattle.wc_value.specs.declared.value.Kind.{Kind}
use Rattle.wc_value.specs.declared.value.Value.{Value, out-Value}
use Rattle.wc_value.specs.declared.value.Value.TheOpen.{Value-F}
use Rattle.wc_syntax.specs.Findings.{is_data}
use Rattle.wc_syntax.specs.declared.expression.ChildPart.TheVariants as part
use Rattle.wc_syntax.specs.declared.expression.Expr.{Expr, Expr-F, roll-Expr}
use Rattle.wc_syntax.specs.declared.expression.Form.{Form, roll-Form, out-Form, ind-Form, map-Form, fold_out-Form}
use Rattle.wc_syntax.specs.declared.expression.Form.TheOpen.{Form-F}
use Rattle.wc_state.specs.Context.{Pairs}
use Rattle.wc_state.specs.declared.context.CtxRef.{CtxRef}
use Rattle.wc_state.specs.declared.context.CtxRef.TheVariants as held
use Rattle.wc_state.specs.declared.environment.Child.{Child}
use Rattle.wc_state.specs.declared.environment.Env.{Env}
use Rattle.wc_state.specs.declared.environment.Item.{Item}
use Rattle.wc_state.specs.declared.environment.Item.TheVariants as item
use Rattle.wc_state.specs.declared.environment.NodeValue.{NodeValue}
use Rattle.wc_expression.specs.declared.outcome.Outcome.{Outcome}
use Rattle.wc_expression.specs.declared.outcome.Outcome.TheVariants.{Gives, Faults}
use Rattle.wc_expression.specs.Contents as contents
use Rattle.wc_expression.specs.Contents.{Seen, bool_of}
use Rattle.wc_expression.specs.Environment.{child, child_of, children, children_of}
use Rattle.wc_expression.specs.Outcomes.{◌>>=◌, mapped, found}
use Rattle.wc_expression.specs.Val.{Meant, form, limited, val, val_form, holds}
use Rattle.wc_semantics.specs.Rules.{fits_port, fitting}
use Rattle.wc_semantics.specs.Run.{picked}
use Rattle.wc_semantics.specs.Statements.{names_data, datum, argument, output as run_output}
use Rattle.wc_world.specs.Trees.{NamedValues}
use Rattle.wc_machine.specs.Rest.{env_alone}
use Rattle.wc_machine.specs.Steps.{node, plain, value_of, node_in, named_node, or_wrong, or_plain, output_node, fitting_node, output}
use Rattle.wc_turn_laws.specs.Nodes.{EachNode, InItem, NodesAre, InArgument}
use Rattle.wc_turn_laws.specs.View.{View, IsSeenRight, item_in, env_in}
use Rattle.wc_turn_laws.proofs.Unnumbered.{Forgets, form_forgets, expr_forgets, val_forgets}

-- ---- the value of a form doesn't hang on node numbers

pub val_form_forgets : (f : Form) → Forgets (val_form f)
val_form_forgets = ind-Form (λ f. Forgets (val_form f)) (λ e. Forgets (val e))
    (λ x y e. subst (λ (z : Form-F Form Expr). Forgets (val_form (roll-Form z))) e (form_forgets (λ s. s.0) (λ s. s.0) (λ s. s.1) y))
    (λ x y e. subst (λ (z : Expr-F Form Expr). Forgets (val (roll-Expr z))) e (expr_forgets (record { at = y.at; form = y.form.0 }) y.form.1))

-- ---- outcomes

pub mapped_then : {A B C : Type 0} (g : B → C) (o : Outcome A) (f : A → Outcome B) → mapped g (o >>= f) ≡ (o >>= (λ x. mapped g (f x)))
mapped_then g (Gives x) f = refl
mapped_then g (Faults r) f = refl

pub mapped_same : {A : Type 0} (o : Outcome A) → mapped (λ x. x) o ≡ o
mapped_same (Gives x) = refl
mapped_same (Faults r) = refl

-- ---- what is named, by node and by value

abbrev on_form : Form-F Form Expr → Meant
on_form y = form (map-Form Form Expr Meant Meant val_form val y)

abbrev pub its_value : NodeValue → Value
its_value n = n.value

-- what names data names a node with its value, and any other expression names none
abbrev Names : Bool → Option (Outcome NodeValue) → Outcome Value → Type 0
Names true o v = (n : Outcome NodeValue) × (o ≡ Some n) × (mapped its_value n ≡ v)
Names false o v = o ≡ None

form_names : (y : Form-F Form Expr) (env : Env) → Names (is_data y) (node_in y env) (on_form y env)
form_names (Form-F.Number n) env = refl
form_names (Form-F.Quoted q) env = refl
form_names (Form-F.Truth b) env = refl
form_names (Form-F.Bare name) env = refl
form_names (Form-F.Input at name) env = (_, refl, refl)
form_names (Form-F.Plain at name) env = refl
form_names (Form-F.Child at name None (part.Outputs l)) env = (_, refl, mapped_then its_value (child name.text env) (output_node (part.Outputs l)))
form_names (Form-F.Child at name None part.Status) env = refl
form_names (Form-F.Child at name None part.Ok) env = refl
form_names (Form-F.Child at name (Some e) (part.Outputs l)) env = (
  _,
  refl,
  mapped_then its_value (children name.text env) (λ cs. val e env >>= (λ i. contents.item cs (out-Value i) >>= output_node (part.Outputs l)))
      ∙ (λ j. children name.text env >>= (λ cs. (mapped_then its_value (val e env) (λ i. contents.item cs (out-Value i) >>= output_node (part.Outputs l))
      ∙ (λ k. val e env >>= (λ i. mapped_then its_value (contents.item cs (out-Value i)) (output_node (part.Outputs l)) k))) j)),
)
form_names (Form-F.Child at name (Some e) part.Status) env = refl
form_names (Form-F.Child at name (Some e) part.Ok) env = refl
form_names (Form-F.Unary op a) env = refl
form_names (Form-F.Binary op a b) env = refl
form_names (Form-F.One word a) env = refl
form_names (Form-F.Two word a b) env = refl
form_names (Form-F.GivenBare name) env = refl
form_names (Form-F.GivenInput at name) env = refl
form_names (Form-F.Count at name) env = refl
form_names (Form-F.List es) env = refl

names : (x : Expr) (env : Env) → Names (names_data x) (named_node x env) (val_form x.form env)
names x env = subst (λ (m : Meant). Names (names_data x) (named_node x env) (m env)) (sym (fold_out-Form Meant Meant form limited x.form)) (form_names (out-Form x.form) env)

wrong_named : (b : Bool) (o : Option (Outcome NodeValue)) (v : Outcome Value) → Names b o v → mapped its_value (or_wrong o) ≡ (if b then v else Faults WrongKind)
wrong_named true o v t = ap (λ (z : Option (Outcome NodeValue)). mapped its_value (or_wrong z)) t.1 ∙ t.2
wrong_named false o v t = ap (λ (z : Option (Outcome NodeValue)). mapped its_value (or_wrong z)) t

forgotten_datum : (b : Bool) (x : Expr) (env : Env) → (if b then val_form x.form (env_alone env) else Faults WrongKind) ≡ (if b then val_form x.form env else Faults WrongKind)
forgotten_datum true x env = val_form_forgets x.form env
forgotten_datum false x env = refl

-- the value of the node that an `out` names
pub datum_is : (x : Expr) (env : Env) → mapped its_value (or_wrong (named_node x env)) ≡ datum x (env_alone env)
datum_is x env = wrong_named (names_data x) (named_node x env) (val_form x.form env) (names x env) ∙ sym (forgotten_datum (names_data x) x env)

fitting_is : (b : Bool) (n : NodeValue) → mapped its_value (if b then Gives n else Faults WrongKind) ≡ (if b then Gives n.value else Faults WrongKind)
fitting_is true n = refl
fitting_is false n = refl

fitting_all : (port : Option Kind) (o : Outcome NodeValue) → mapped its_value (o >>= fitting_node port) ≡ (mapped its_value o >>= fitting port)
fitting_all port (Gives n) = fitting_is (fits_port port n.value) n
fitting_all port (Faults r) = refl

pub output_is : (port : Option Kind) (x : Expr) (env : Env) → mapped its_value (output port x env) ≡ run_output port x (env_alone env)
output_is port x env = fitting_all port (or_wrong (named_node x env)) ∙ ap (λ (o : Outcome Value). o >>= fitting port) (datum_is x env)

-- ---- arguments

given_node : (o : Outcome NodeValue) → mapped value_of (o >>= (λ n. Gives (node n))) ≡ mapped its_value o
given_node (Gives n) = refl
given_node (Faults r) = refl

given_plain : (o : Outcome Value) → mapped value_of (o >>= (λ v. Gives (plain v))) ≡ o
given_plain (Gives v) = refl
given_plain (Faults r) = refl

plain_named : (b : Bool) (o : Option (Outcome NodeValue)) (v w : Outcome Value) → Names b o v → mapped value_of (or_plain o w) ≡ (if b then v else w)
plain_named true o v w t = ap (λ (z : Option (Outcome NodeValue)). mapped value_of (or_plain z w)) t.1 ∙ given_node t.0 ∙ t.2
plain_named false o v w t = ap (λ (z : Option (Outcome NodeValue)). mapped value_of (or_plain z w)) t ∙ given_plain w

forgotten_argument : (b : Bool) (x : Expr) (env : Env) → (if b then val_form x.form (env_alone env) else val x (env_alone env)) ≡ (if b then val_form x.form env else val x env)
forgotten_argument true x env = val_form_forgets x.form env
forgotten_argument false x env = val_forgets x env

-- the value of an argument
pub argument_is : (x : Expr) (env : Env) → mapped value_of (or_plain (named_node x env) (val x env)) ≡ argument x (env_alone env)
argument_is x env = plain_named (names_data x) (named_node x env) (val_form x.form env) (val x env) (names x env) ∙ sym (forgotten_argument (names_data x) x env)

-- ---- what holds of each node of an environment

abbrev pub HasNode : {A : Type 0} → (A → Type 0) → Outcome A → Type 0
HasNode P (Gives n) = P n
HasNode P (Faults r) = Unit {0}

found_has : {A : Type 0} (P : A → Type 0) (r : Reason) (name : List ℕ) (es : List (List ℕ × A)) → All (λ e. P e.1) es → HasNode P (found r (lookup name es))
found_has P r name [] h = tt
found_has P r name (e ∷ es) h = by (bytes_eq e.0 name) (found_has P r name es (All-tail (λ x. P x.1) e es h))
  where
    by : (b : Bool) → HasNode P (found r (lookup name es)) → HasNode P (found r (if b then Some e.1 else lookup name es))
    by true t = All-head (λ x. P x.1) e es h
    by false t = t

place_has : {A : Type 0} (P : A → Type 0) (r : Reason) (xs : List A) (n : ℕ) → All P xs → HasNode P (found r (slice_get xs n))
place_has P r [] n h = tt
place_has P r (x ∷ xs) zero h = All-head P x xs h
place_has P r (x ∷ xs) (suc n) h = place_has P r xs n (All-tail P x xs h)

pub then_has : {A B : Type 0} (P : A → Type 0) (Q : B → Type 0) (o : Outcome A) (f : A → Outcome B) → HasNode P o → ((x : A) → P x → HasNode Q (f x)) → HasNode Q (o >>= f)
then_has P Q (Gives x) f h q = q x h
then_has P Q (Faults r) f h q = tt

module _ (P : NodeValue → Type 0) where
  child_has : (i : Item) → InItem P i → HasNode (λ c. EachNode P c.outputs) (child_of i)
  child_has (item.Plain v) h = tt
  child_has (item.One c) h = h
  child_has (item.Many cs) h = tt

  children_have : (i : Item) → InItem P i → HasNode (λ cs. All (λ c. EachNode P c.outputs) cs) (children_of i)
  children_have (item.Plain v) h = tt
  children_have (item.One c) h = tt
  children_have (item.Many cs) h = h

  output_of_child : (l : _) (c : Child) → EachNode P c.outputs → HasNode P (output_node (part.Outputs l) c)
  output_of_child l c h = found_has P NoOutput l.text c.outputs h

  at_number : (cs : List Child) (i : Seen) → All (λ c. EachNode P c.outputs) cs → HasNode (λ c. EachNode P c.outputs) (contents.item cs i)
  at_number cs (Value-F.Int (pos n)) h = place_has (λ c. EachNode P c.outputs) MissingKey cs n h
  at_number cs (Value-F.Int (negsuc n)) h = tt
  at_number cs (Value-F.Bool b) h = tt
  at_number cs (Value-F.Text t) h = tt
  at_number cs (Value-F.List vs) h = tt
  at_number cs (Value-F.Dict ps) h = tt
  at_number cs (Value-F.Folder fs) h = tt

  -- a node that is named, if one is
  abbrev pub HasNamed : Option (Outcome NodeValue) → Type 0
  HasNamed None = Unit {0}
  HasNamed (Some o) = HasNode P o

  form_has : (y : Form-F Form Expr) (env : Env) → NodesAre P env → HasNamed (node_in y env)
  form_has (Form-F.Number n) env h = tt
  form_has (Form-F.Quoted q) env h = tt
  form_has (Form-F.Truth b) env h = tt
  form_has (Form-F.Bare name) env h = tt
  form_has (Form-F.Input at name) env h = found_has P MissingKey name.text env.inputs h.given
  form_has (Form-F.Plain at name) env h = tt
  form_has (Form-F.Child at name None (part.Outputs l)) env h =
      then_has (λ c. EachNode P c.outputs) P (child name.text env) (output_node (part.Outputs l))
      (then_has (InItem P) (λ c. EachNode P c.outputs) (found MissingKey (lookup name.text env.ctx)) child_of (found_has (InItem P) MissingKey name.text env.ctx h.items) child_has)
      (output_of_child l)
  form_has (Form-F.Child at name None part.Status) env h = tt
  form_has (Form-F.Child at name None part.Ok) env h = tt
  form_has (Form-F.Child at name (Some e) (part.Outputs l)) env h =
      then_has (λ cs. All (λ c. EachNode P c.outputs) cs) P (children name.text env) (λ cs. val e env >>= (λ i. contents.item cs (out-Value i) >>= output_node (part.Outputs l)))
      (then_has (InItem P) (λ cs. All (λ c. EachNode P c.outputs) cs) (found MissingKey (lookup name.text env.ctx)) children_of
      (found_has (InItem P) MissingKey name.text env.ctx h.items) children_have)
      (λ cs hs. then_has (λ i. Unit {0}) P (val e env) (λ i. contents.item cs (out-Value i) >>= output_node (part.Outputs l)) (any (val e env))
      (λ i t. then_has (λ c. EachNode P c.outputs) P (contents.item cs (out-Value i)) (output_node (part.Outputs l)) (at_number cs (out-Value i) hs) (output_of_child l)))
    where
      any : {A : Type 0} (o : Outcome A) → HasNode (λ i. Unit {0}) o
      any (Gives x) = tt
      any (Faults r) = tt
  form_has (Form-F.Child at name (Some e) part.Status) env h = tt
  form_has (Form-F.Child at name (Some e) part.Ok) env h = tt
  form_has (Form-F.Unary op a) env h = tt
  form_has (Form-F.Binary op a b) env h = tt
  form_has (Form-F.One word a) env h = tt
  form_has (Form-F.Two word a b) env h = tt
  form_has (Form-F.GivenBare name) env h = tt
  form_has (Form-F.GivenInput at name) env h = tt
  form_has (Form-F.Count at name) env h = tt
  form_has (Form-F.List es) env h = tt

  pub named_has : (x : Expr) (env : Env) → NodesAre P env → HasNamed (named_node x env)
  named_has x env h = form_has (out-Form x.form) env h

  wrong_has : (o : Option (Outcome NodeValue)) → HasNamed o → HasNode P (or_wrong o)
  wrong_has None h = tt
  wrong_has (Some o) h = h

  plain_has : (o : Option (Outcome NodeValue)) (v : Outcome Value) → HasNamed o → HasNode (InArgument P) (or_plain o v)
  plain_has None (Gives v) h = tt
  plain_has None (Faults r) h = tt
  plain_has (Some (Gives n)) v h = h
  plain_has (Some (Faults r)) v h = tt

  -- so an argument, and an output, names such a node
  pub argument_has : (x : Expr) (env : Env) → NodesAre P env → HasNode (InArgument P) (or_plain (named_node x env) (val x env))
  argument_has x env h = plain_has (named_node x env) (val x env) (named_has x env h)

  pub output_has : (port : Option Kind) (x : Expr) (env : Env) → NodesAre P env → HasNode P (output port x env)
  output_has port x env h = then_has P P (or_wrong (named_node x env)) (fitting_node port) (wrong_has (named_node x env) (named_has x env h)) (λ n p. by (fits_port port n.value) n p)
    where
      by : (b : Bool) (n : NodeValue) → P n → HasNode P (if b then Gives n else Faults WrongKind)
      by true n p = p
      by false n p = tt

-- ---- data is seen as it stands

item_seen : (v : View) (es : NamedValues) → IsSeenRight v es → (held' : CtxRef) → InItem (λ n. v.value n.node ≡ n.value) (item_in v held')
item_seen v es h (held.Plain x) = tt
item_seen v es h (held.One pid) = h.children pid
item_seen v es h (held.Many pids) = All-map (λ (c : Child). EachNode (λ n. v.value n.node ≡ n.value) c.outputs) v.child pids (every pids)
  where
    every : (ids : List ℕ) → All (λ pid. EachNode (λ n. v.value n.node ≡ n.value) (v.child pid).outputs) ids
    every [] = All-nil (λ pid. EachNode (λ n. v.value n.node ≡ n.value) (v.child pid).outputs)
    every (p ∷ ps) = All-cons (λ pid. EachNode (λ n. v.value n.node ≡ n.value) (v.child pid).outputs) p ps (h.children p) (every ps)

pub seen_nodes : (v : View) (es : NamedValues) (ctx : Pairs) → IsSeenRight v es → NodesAre (λ n. v.value n.node ≡ n.value) (env_in v es ctx)
seen_nodes v es ctx h = record { given = h.inputs; items = All-map (λ (e : List ℕ × Item). InItem (λ n. v.value n.node ≡ n.value) e.1) (λ (e : List ℕ × CtxRef). (e.0, item_in v e.1)) ctx (every ctx) }
  where
    every : (ps : Pairs) → All (λ e. InItem (λ n. v.value n.node ≡ n.value) (item_in v e.1)) ps
    every [] = All-nil (λ e. InItem (λ n. v.value n.node ≡ n.value) (item_in v e.1))
    every (p ∷ ps) = All-cons (λ e. InItem (λ n. v.value n.node ≡ n.value) (item_in v e.1)) p ps (item_seen v es h p.1) (every ps)

pub holds_alone : (x : Expr) (env : Env) → holds x (env_alone env) ≡ holds x env
holds_alone x env = ap (λ (o : Outcome Value). o >>= (λ v. bool_of (out-Value v))) (val_forgets x env)

pub picked_alone : {A : Type 0} (xs : List (Expr × A)) (other : A) (env : Env) → picked xs other (env_alone env) ≡ picked xs other env
picked_alone [] other env = refl
picked_alone (x ∷ xs) other env = λ i. holds_alone x.0 env i >>= (λ b. if b then Gives x.1 else picked_alone xs other env i)
