-- What a chain sees of a world.
use Rattle.std.proofs.Common.{◌≡◌, ℕ, Bool, true, false, List, [], ◌∷◌, Option, Some, None, map, refl, sym, ap, ◌∙◌}
use Rattle.std.specs.Prelude.{if◌then◌else◌, All, option_map, option_and_then}
use Rattle.std.proofs.lemmas.List.Elements.{All-head, All-tail, All-nil, All-cons, All-map}
use Rattle.wc_value.specs.declared.process.ProcessState.TheVariants as state
use Rattle.wc_value.specs.declared.value.Value.{Value}
use Rattle.wc_value.specs.declared.value.Value.TheVariants as value
use Rattle.wc_graph.specs.Rules.{node_of}
use Rattle.wc_graph.specs.declared.link.Link.{Link}
use Rattle.wc_graph.specs.declared.node.NodeKind.{NodeKind}
use Rattle.wc_graph.specs.declared.node.NodeKind.TheVariants as node
use Rattle.wc_state.specs.Context.{Pairs}
use Rattle.wc_state.specs.declared.context.CtxRef.{CtxRef}
use Rattle.wc_state.specs.declared.context.CtxRef.TheVariants as held
use Rattle.wc_state.specs.declared.environment.Child.{Child}
use Rattle.wc_state.specs.declared.environment.Item.{Item}
use Rattle.wc_state.specs.declared.environment.NodeValue.{NodeValue}
use Rattle.wc_state.specs.declared.record.ProcessRecord.{ProcessRecord}
use Rattle.wc_semantics.specs.Tables.{Label}
use Rattle.wc_world.specs.Fits.{is_data_node}
use Rattle.wc_world.specs.Records.{find_record, is_input_of, is_output_of}
use Rattle.wc_world.specs.Trees.{NamedValues, data_of, value_of, with_value, inputs_after, inputs_of, outputs_after, outputs_of, child_at, and_child, children_at, item_of, and_item, items_of}
use Rattle.wc_world.specs.World.{World}
use Rattle.wc_machine.specs.Rest.{and_value, set_values}
use Rattle.wc_turn_laws.specs.Nodes.{EachNode, InItem, NodesAre}
use Rattle.wc_turn_laws.specs.View.{View, IsSeenRight, AreSeen, item_in, context_in, values_of, env_in}
use Rattle.wc_turn_laws.proofs.Passed.{put_keeps}

abbrev pub or_some_value : Option Value → Value
or_some_value None = value.Bool false
or_some_value (Some v) = v

abbrev pub or_some_child : Option Child → Child
or_some_child None = record { node = 0; state = state.Created; outputs = [] }
or_some_child (Some c) = c

-- the value of each data node, and each process with the state and the outputs that it has; anything for what is neither
abbrev pub view_of : World → View
view_of w = record { value = λ id. or_some_value (value_of w.nodes id); child = λ pid. or_some_child (child_at w pid) }

-- an entry has the value of its node
abbrev pub IsRead : List NodeKind → NodeValue → Type 0
IsRead nodes n = value_of nodes n.node ≡ Some n.value

with_read : (nodes : List NodeKind) (label : List ℕ) (id : ℕ) (o : Option Value) (es : NamedValues) → value_of nodes id ≡ o → EachNode (IsRead nodes) es → EachNode (IsRead nodes) (with_value label id o es)
with_read nodes label id None es e h = h
with_read nodes label id (Some v) es e h = put_keeps (IsRead nodes) label (record { node = id; value = v }) es h e

pub inputs_read : (nodes : List NodeKind) (pid : ℕ) (ls : List Link) (es : NamedValues) → EachNode (IsRead nodes) es → EachNode (IsRead nodes) (inputs_after nodes pid ls es)
inputs_read nodes pid [] es h = h
inputs_read nodes pid (l ∷ ls) es h = inputs_read nodes pid ls _ (by (is_input_of pid l))
  where
    by : (b : Bool) → EachNode (IsRead nodes) (if b then with_value l.label l.source (value_of nodes l.source) es else es)
    by true = with_read nodes l.label l.source (value_of nodes l.source) es refl h
    by false = h

pub outputs_read : (nodes : List NodeKind) (pid : ℕ) (ls : List Link) (es : NamedValues) → EachNode (IsRead nodes) es → EachNode (IsRead nodes) (outputs_after nodes pid ls es)
outputs_read nodes pid [] es h = h
outputs_read nodes pid (l ∷ ls) es h = outputs_read nodes pid ls _ (by (is_output_of pid l))
  where
    by : (b : Bool) → EachNode (IsRead nodes) (if b then with_value l.label l.target (value_of nodes l.target) es else es)
    by true = with_read nodes l.label l.target (value_of nodes l.target) es refl h
    by false = h

none_read : (nodes : List NodeKind) → EachNode (IsRead nodes) []
none_read nodes = All-nil (λ (e : List ℕ × NodeValue). IsRead nodes e.1)

pub given_read : (w : World) (pid : ℕ) → EachNode (IsRead w.nodes) (inputs_of w pid)
given_read w pid = inputs_read w.nodes pid w.links [] (none_read w.nodes)

child_read : (w : World) (pid : ℕ) (o : Option ProcessRecord)
    → EachNode (IsRead w.nodes) (or_some_child (option_map (λ r. record { node = pid; state = r.state; outputs = outputs_of w pid }) o)).outputs
child_read w pid None = none_read w.nodes
child_read w pid (Some r) = outputs_read w.nodes pid w.links [] (none_read w.nodes)

pub children_read : (w : World) (pid : ℕ) → EachNode (IsRead w.nodes) ((view_of w).child pid).outputs
children_read w pid = child_read w pid (find_record pid w.records)

-- so data is seen as it stands in its node
all_seen : (w : World) (es : NamedValues) → EachNode (IsRead w.nodes) es → AreSeen (view_of w) es
all_seen w es h = λ k d lt. ap or_some_value (h k d lt)

pub seen_right : (w : World) (pid : ℕ) → IsSeenRight (view_of w) (inputs_of w pid)
seen_right w pid = record { inputs = all_seen w (inputs_of w pid) (given_read w pid); children = λ q. all_seen w ((view_of w).child q).outputs (children_read w q) }

-- ---- what keys hold

-- what a key holds is there in a world, and is what is seen of it in another
abbrev pub IsThere : World → World → CtxRef → Type 0
IsThere v w h = item_of v h ≡ Some (item_in (view_of w) h)

pub items_there : (v w : World) (ctx : Pairs) → All (λ e. IsThere v w e.1) ctx → items_of v ctx ≡ Some (context_in (view_of w) ctx)
items_there v w [] h = refl
items_there v w (e ∷ es) h =
    ap (λ (o : Option Item). and_item e.0 o (items_of v es)) (All-head (λ z. IsThere v w z.1) e es h)
    ∙ ap (and_item e.0 (Some (item_in (view_of w) e.1))) (items_there v w es (All-tail (λ z. IsThere v w z.1) e es h))

found_child : (w : World) (pid : ℕ) (o : Option ProcessRecord) (r : ProcessRecord) → o ≡ Some r
    → option_map (λ r. record { node = pid; state = r.state; outputs = outputs_of w pid }) o
    ≡ Some (or_some_child (option_map (λ r. record { node = pid; state = r.state; outputs = outputs_of w pid }) o))
found_child w pid None r h = absurd (cc)
found_child w pid (Some q) r h = refl

-- a process that is there is seen as it is
pub child_there : (w : World) (pid : ℕ) (r : ProcessRecord) → find_record pid w.records ≡ Some r → child_at w pid ≡ Some ((view_of w).child pid)
child_there w pid r found = found_child w pid (find_record pid w.records) r found

pub children_there : (v w : World) (pids : List ℕ) → All (λ pid. child_at v pid ≡ Some ((view_of w).child pid)) pids → children_at v pids ≡ Some (map (view_of w).child pids)
children_there v w [] h = refl
children_there v w (p ∷ ps) h =
    ap (λ (o : Option Child). and_child o (children_at v ps)) (All-head (λ pid. child_at v pid ≡ Some ((view_of w).child pid)) p ps h)
    ∙ ap (and_child (Some ((view_of w).child p))) (children_there v w ps (All-tail (λ pid. child_at v pid ≡ Some ((view_of w).child pid)) p ps h))

-- ---- outputs that were set

-- a data node of a world has the value that is seen of it in another
abbrev pub IsData : World → World → ℕ → Type 0
IsData v w id = value_of v.nodes id ≡ Some ((view_of w).value id)

pub values_there : (v w : World) (outputs : List (Label × ℕ)) → All (λ o. IsData v w o.1) outputs → set_values v outputs ≡ Some (values_of (view_of w) outputs)
values_there v w [] h = refl
values_there v w (o ∷ os) h =
    ap (λ (x : Option Value). and_value o.0 x (set_values v os)) (All-head (λ z. IsData v w z.1) o os h)
    ∙ ap (and_value o.0 (Some ((view_of w).value o.1))) (values_there v w os (All-tail (λ z. IsData v w z.1) o os h))

pub read_is_data : (w : World) (n : NodeValue) → IsRead w.nodes n → IsData w w n.node
read_is_data w n h = h ∙ ap (λ (v : Value). Some v) (sym (ap or_some_value h))

data_some : (o : Option NodeKind) → is_data_node o ≡ true → option_and_then data_of o ≡ Some (or_some_value (option_and_then data_of o))
data_some None h = absurd (cc)
data_some (Some (node.Data v)) h = refl
data_some (Some node.Calculation) h = absurd (cc)
data_some (Some node.Workflow) h = absurd (cc)

pub data_there : (w : World) (id : ℕ) → is_data_node (node_of w.nodes id) ≡ true → IsData w w id
data_there w id h = data_some (node_of w.nodes id) h

-- ---- what is named in an environment

item_read : (w : World) (h : CtxRef) → InItem (IsRead w.nodes) (item_in (view_of w) h)
item_read w (held.Plain x) = tt
item_read w (held.One pid) = children_read w pid
item_read w (held.Many pids) = All-map (λ (c : Child). EachNode (IsRead w.nodes) c.outputs) (view_of w).child pids (every pids)
  where
    every : (ids : List ℕ) → All (λ pid. EachNode (IsRead w.nodes) ((view_of w).child pid).outputs) ids
    every [] = All-nil (λ pid. EachNode (IsRead w.nodes) ((view_of w).child pid).outputs)
    every (p ∷ ps) = All-cons (λ pid. EachNode (IsRead w.nodes) ((view_of w).child pid).outputs) p ps (children_read w p) (every ps)

pub nodes_read : (w : World) (pid : ℕ) (ctx : Pairs) → NodesAre (IsRead w.nodes) (env_in (view_of w) (inputs_of w pid) ctx)
nodes_read w pid ctx = record {
  given = given_read w pid;
  items = All-map (λ (e : List ℕ × Item). InItem (IsRead w.nodes) e.1) (λ (e : List ℕ × CtxRef). (e.0, item_in (view_of w) e.1)) ctx (every ctx);
}
  where
    every : (ps : Pairs) → All (λ e. InItem (IsRead w.nodes) (item_in (view_of w) e.1)) ps
    every [] = All-nil (λ e. InItem (IsRead w.nodes) (item_in (view_of w) e.1))
    every (p ∷ ps) = All-cons (λ e. InItem (IsRead w.nodes) (item_in (view_of w) e.1)) p ps (item_read w p.1) (every ps)
