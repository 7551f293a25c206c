-- The outputs that are recorded of a process ascend by their labels, and none is more than 32 deep.
use Rattle.std.proofs.Common.{◌≡◌, ℕ, zero, suc, ◌≤◌, Bool, true, false, Option, Some, None, List, [], ◌∷◌, refl, subst}
use Rattle.std.specs.Prelude.{All, if◌then◌else◌, slice_get, option_and_then}
use Rattle.std.specs.List.Sorted.{IsStrictlySortedBy}
use Rattle.std.specs.Str.{bytes_eq}
use Rattle.std.proofs.lemmas.List.Elements.{All-nil, All-cons, All-head, All-tail}
use Rattle.wc_value.specs.Ascending.{before, put}
use Rattle.wc_value.specs.Spelling.{depth}
use Rattle.wc_value.specs.declared.value.Value.{Value}
use Rattle.wc_value.proofs.Puts.{ascends_put}
use Rattle.wc_graph.specs.declared.link.Link.{Link}
use Rattle.wc_graph.specs.declared.node.NodeKind.{NodeKind}
use Rattle.wc_graph.specs.declared.node.NodeKind.TheVariants as node
use Rattle.wc_semantics.specs.Rules.{Values}
use Rattle.wc_world.specs.Consistent.{IsShallow}
use Rattle.wc_world.specs.Records.{is_output_of}
use Rattle.wc_world.specs.Trees.{data_of, value_of}
use Rattle.wc_world.specs.Linked.{with_plain, plain_after}
use Rattle.wc_world.proofs.LabelledValues.{plain_outputs}
use Rattle.wc_machine.specs.Submissions.{AreInputs}
use Rattle.wc_soundness.specs.CachingLaws.{OutputsAreInputs}

abbrev IsLow : List ℕ × Value → Type 0
IsLow e = depth e.1 ≤ 32

-- what holds of each entry and of a new one holds of each once it is put
all_put : (P : List ℕ × Value → Type 0) (name : List ℕ) (v : Value) (es : Values) → P (name, v) → All P es → All P (put name v es)
all_put P name v [] h a = All-cons P (name, v) [] h a
all_put P name v (e ∷ es) h a = at (before e.0 name) (bytes_eq e.0 name) (all_put P name v es h (All-tail P e es a))
  where
    at : (b c : Bool) → All P (put name v es) → All P (if b then e ∷ put name v es else if c then (name, v) ∷ es else (name, v) ∷ e ∷ es)
    at true c rest = All-cons P e (put name v es) (All-head P e es a) rest
    at false true rest = All-cons P (name, v) es h (All-tail P e es a)
    at false false rest = All-cons P (name, v) (e ∷ es) h a

data_low : (k : NodeKind) (v : Value) → IsShallow k → data_of k ≡ Some v → depth v ≤ 32
data_low (node.Data x) v h e = let same : x ≡ v = cc in subst (λ (y : Value). depth y ≤ 32) same h
data_low node.Calculation v h e = absurd (cc)
data_low node.Workflow v h e = absurd (cc)

got_low : (nodes : List NodeKind) (place : ℕ) (v : Value) → All IsShallow nodes → option_and_then data_of (slice_get nodes place) ≡ Some v → depth v ≤ 32
got_low [] place v a e = absurd (cc)
got_low (k ∷ ks) zero v a e = data_low k v (All-head IsShallow k ks a) e
got_low (k ∷ ks) (suc place) v a e = got_low ks place v (All-tail IsShallow k ks a) e

value_low : (nodes : List NodeKind) (id : ℕ) (v : Value) → All IsShallow nodes → value_of nodes id ≡ Some v → depth v ≤ 32
value_low nodes zero v a e = absurd (cc)
value_low nodes (suc place) v a e = got_low nodes place v a e

with_good : (label : List ℕ) (o : Option Value) (es : Values) → ((v : Value) → o ≡ Some v → depth v ≤ 32) → AreInputs es → AreInputs (with_plain label o es)
with_good label None es low a = a
with_good label (Some v) es low a = record { ascend = ascends_put label v es a.ascend; shallow = all_put IsLow label v es (low v refl) a.shallow }

after_good : (nodes : List NodeKind) (pid : ℕ) (ls : List Link) (es : Values) → All IsShallow nodes → AreInputs es → AreInputs (plain_after nodes pid ls es)
after_good nodes pid [] es s a = a
after_good nodes pid (l ∷ ls) es s a =
    after_good nodes pid ls (if is_output_of pid l then with_plain l.label (value_of nodes l.target) es else es) s
    (at (is_output_of pid l) (with_good l.label (value_of nodes l.target) es (λ v e. value_low nodes l.target v s e) a))
  where
    at : (b : Bool) → AreInputs (with_plain l.label (value_of nodes l.target) es) → AreInputs (if b then with_plain l.label (value_of nodes l.target) es else es)
    at true h = h
    at false h = a

pub nothing_good : AreInputs []
unfolding IsStrictlySortedBy
nothing_good = record { ascend = tt; shallow = All-nil IsLow }

pub outputs_are_inputs : OutputsAreInputs
outputs_are_inputs w pid c = subst AreInputs (plain_outputs w.nodes pid w.links) (after_good w.nodes pid w.links [] c.shallow nothing_good)
