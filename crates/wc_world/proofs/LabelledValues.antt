-- Inputs and outputs of a process, link by link.
use Rattle.std.proofs.Common.{◌≡◌, ℕ, Bool, true, false, if◌then◌else◌, List, [], ◌∷◌, Option, Some, None, refl, ap, sym, ◌∙◌}
use Rattle.wc_value.specs.Ascending.{put, before}
use Rattle.std.specs.Str.{bytes_eq}
use Rattle.wc_value.specs.declared.value.Value.{Value}
use Rattle.wc_graph.specs.declared.node.NodeKind.{NodeKind}
use Rattle.wc_graph.specs.declared.link.Link.{Link}
use Rattle.wc_state.specs.declared.environment.NodeValue.{NodeValue}
use Rattle.wc_world.specs.Records.{is_output_of}
use Rattle.wc_world.specs.Trees.{NamedValues, value_of, with_value, outputs_after, values_alone}
use Rattle.wc_world.specs.Linked.{with_plain, plain_after}

-- ---- values alone

value_set : (label : List ℕ) (v : NodeValue) (e : List ℕ × NodeValue) (es : NamedValues) (b c : Bool)
    → values_alone (put label v es) ≡ put label v.value (values_alone es)
    → values_alone (if b then e ∷ put label v es else if c then (label, v) ∷ es else (label, v) ∷ e ∷ es)
    ≡ (if b then (e.0, e.1.value) ∷ put label v.value (values_alone es)
    else if c then (label, v.value) ∷ values_alone es else (label, v.value) ∷ (e.0, e.1.value) ∷ values_alone es)
value_set label v e es true c rest = ap (λ l. (e.0, e.1.value) ∷ l) rest
value_set label v e es false true rest = refl
value_set label v e es false false rest = refl

-- a value put by its label
values_put : (label : List ℕ) (v : NodeValue) (es : NamedValues) → values_alone (put label v es) ≡ put label v.value (values_alone es)
values_put label v [] = refl
values_put label v (e ∷ es) = value_set label v e es (before e.0 label) (bytes_eq e.0 label) (values_put label v es)

with_plain_is : (label : List ℕ) (id : ℕ) (o : Option Value) (es : NamedValues) → values_alone (with_value label id o es) ≡ with_plain label o (values_alone es)
with_plain_is label id None es = refl
with_plain_is label id (Some v) es = values_put label (record { node = id; value = v }) es

plain_step : (label : List ℕ) (id : ℕ) (o : Option Value) (es : NamedValues) (b : Bool)
    → values_alone (if b then with_value label id o es else es) ≡ (if b then with_plain label o (values_alone es) else values_alone es)
plain_step label id o es true = with_plain_is label id o es
plain_step label id o es false = refl

plain_after_is : (nodes : List NodeKind) (pid : ℕ) (ls : List Link) (es : NamedValues) → values_alone (outputs_after nodes pid ls es) ≡ plain_after nodes pid ls (values_alone es)
plain_after_is nodes pid [] es = refl
plain_after_is nodes pid (l ∷ ls) es =
    plain_after_is nodes pid ls (if is_output_of pid l then with_value l.label l.target (value_of nodes l.target) es else es)
    ∙ ap (plain_after nodes pid ls) (plain_step l.label l.target (value_of nodes l.target) es (is_output_of pid l))

pub plain_outputs : (nodes : List NodeKind) (pid : ℕ) (ls : List Link) → plain_after nodes pid ls [] ≡ values_alone (outputs_after nodes pid ls [])
plain_outputs nodes pid ls = sym (plain_after_is nodes pid ls [])
