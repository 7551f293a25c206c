-- What appended nodes, links, records and libraries leave as it was.
use Rattle.std.proofs.Common.{◌≡◌, ℕ, zero, suc, ◌+◌, ◌<◌, ◌≤◌, Bool, true, false, cond, Option, Some, None, List, [], ◌∷◌, ◌++◌, map, length, refl, sym, ap, ◌∙◌, subst, arith}
use Rattle.std.specs.Prelude.{All, ◌==◌, ◌&&◌, ◌||◌, not, option_map, option_and_then, slice_get, filter, if◌then◌else◌}
use Rattle.std.specs.List.{list_any}
use Rattle.std.specs.Str.{bytes_eq}
use Rattle.std.proofs.lemmas.Bool.{ne_eqb, cond-false}
use Rattle.std.proofs.lemmas.List.Elements.{All-nil, All-cons, All-head, All-tail, All-weaker}
use Rattle.std.proofs.lemmas.Option.{slice_get_within}
use Rattle.wc_value.specs.declared.process.Tree.{Tree}
use Rattle.wc_value.specs.declared.value.Value.{Value}
use Rattle.wc_syntax.specs.declared.definition.Definition.{Definition}
use Rattle.wc_graph.specs.declared.node.NodeKind.{NodeKind}
use Rattle.wc_graph.specs.declared.node.NodeKind.TheVariants as node
use Rattle.wc_graph.specs.declared.link.Link.{Link}
use Rattle.wc_graph.specs.Rules.{node_of, Leaves, Enters, HasRightEnds}
use Rattle.wc_state.specs.declared.record.ProcessRecord.{ProcessRecord}
use Rattle.wc_semantics.specs.Tables.{Label, Path}
use Rattle.wc_world.specs.World.{Known}
use Rattle.wc_world.specs.Records.{find_record, has_ended, calls, is_call_from, is_input_of, is_output_of, library_at}
use Rattle.wc_world.specs.Fits.{calls_from, has_output, counted_calls, is_settled}
use Rattle.wc_world.specs.Trees.{NamedValues, data_of, value_of, with_value, inputs_after, outputs_after, Branch, and_branch, branches}
use Rattle.wc_world.specs.Consistent.{processes_from, process_of}
use Rattle.wc_world.proofs.ReachedLists.{heads, node_grown, slice_get_grown, some_and, option_map_some}
use Rattle.wc_machine.specs.Paths.{called_under, follow}

-- ---- nodes

-- the number is that of a node
abbrev pub IsNode : List NodeKind → ℕ → Type 0
IsNode nodes id = (k : NodeKind) × (node_of nodes id ≡ Some k)

pub source_is_node : (nodes : List NodeKind) (l : Link) → HasRightEnds nodes l → IsNode nodes l.source
source_is_node nodes l h = let k = some_and (Leaves l.link) (node_of nodes l.source) h.0 in (k.0, k.1)

pub target_is_node : (nodes : List NodeKind) (l : Link) → HasRightEnds nodes l → IsNode nodes l.target
target_is_node nodes l h = let k = some_and (Enters l.link) (node_of nodes l.target) h.1 in (k.0, k.1)

pub node_number : (nodes : List NodeKind) (id : ℕ) → IsNode nodes id → id ≤ length nodes
node_number nodes zero h = omega arith
node_number nodes (suc place) h = let lt : place < length nodes = slice_get_within nodes place h.0 h.1 in omega arith

pub node_stays : (nodes more : List NodeKind) (id : ℕ) → IsNode nodes id → node_of (nodes ++ more) id ≡ node_of nodes id
node_stays nodes more id h = node_grown nodes more id h.0 h.1 ∙ sym h.1

pub value_stays : (nodes more : List NodeKind) (id : ℕ) → IsNode nodes id → value_of (nodes ++ more) id ≡ value_of nodes id
value_stays nodes more id h = ap (option_and_then data_of) (node_stays nodes more id h)

-- ---- records

pub find_before : (pid : ℕ) (rs more : List ProcessRecord) → find_record pid more ≡ None → find_record pid (rs ++ more) ≡ find_record pid rs
find_before pid [] more h = h
find_before pid (r ∷ rs) more h = ap (cond (r.node == pid) (Some r)) (find_before pid rs more h)

-- ---- libraries

pub library_stays : (libraries more : List Known) (number : ℕ) (l : List Definition) → library_at libraries number ≡ Some l
    → library_at (libraries ++ more) number ≡ library_at libraries number
library_stays libraries more zero l h = refl
library_stays libraries more (suc place) l h =
    let k = option_map_some (λ (x : Known). x.0) (slice_get libraries place) l h in
    ap (option_map (λ (x : Known). x.0)) (slice_get_grown libraries more place k.0 k.1 ∙ sym k.1)

-- ---- links that don't touch a process

pub inputs_append : (nodes : List NodeKind) (pid : ℕ) (ls more : List Link) (es : NamedValues)
    → inputs_after nodes pid (ls ++ more) es ≡ inputs_after nodes pid more (inputs_after nodes pid ls es)
inputs_append nodes pid [] more es = refl
inputs_append nodes pid (l ∷ ls) more es = inputs_append nodes pid ls more (if is_input_of pid l then with_value l.label l.source (value_of nodes l.source) es else es)

pub outputs_append : (nodes : List NodeKind) (pid : ℕ) (ls more : List Link) (es : NamedValues)
    → outputs_after nodes pid (ls ++ more) es ≡ outputs_after nodes pid more (outputs_after nodes pid ls es)
outputs_append nodes pid [] more es = refl
outputs_append nodes pid (l ∷ ls) more es = outputs_append nodes pid ls more (if is_output_of pid l then with_value l.label l.target (value_of nodes l.target) es else es)

abbrev pub NoInput : ℕ → List Link → Type 0
NoInput pid = All (λ l. is_input_of pid l ≡ false)

abbrev pub NoOutput : ℕ → List Link → Type 0
NoOutput pid = All (λ l. is_output_of pid l ≡ false)

abbrev pub NoCallFrom : ℕ → List Link → Type 0
NoCallFrom pid = All (λ l. is_call_from pid l ≡ false)

abbrev pub NoCalls : List Link → Type 0
NoCalls = All (λ l. calls l.link ≡ false)

pub no_call_from : (pid : ℕ) (ls : List Link) → NoCalls ls → NoCallFrom pid ls
no_call_from pid ls = All-weaker (λ l. calls l.link ≡ false) (λ l. is_call_from pid l ≡ false) (λ l h. ap (λ (b : Bool). b && (l.source == pid)) h) ls

pub inputs_untouched : (nodes : List NodeKind) (pid : ℕ) (ls : List Link) (es : NamedValues) → NoInput pid ls → inputs_after nodes pid ls es ≡ es
inputs_untouched nodes pid [] es h = refl
inputs_untouched nodes pid (l ∷ ls) es h =
    ap (λ (b : Bool). inputs_after nodes pid ls (if b then with_value l.label l.source (value_of nodes l.source) es else es))
    (All-head (λ x. is_input_of pid x ≡ false) l ls h)
    ∙ inputs_untouched nodes pid ls es (All-tail (λ x. is_input_of pid x ≡ false) l ls h)

pub outputs_untouched : (nodes : List NodeKind) (pid : ℕ) (ls : List Link) (es : NamedValues) → NoOutput pid ls → outputs_after nodes pid ls es ≡ es
outputs_untouched nodes pid [] es h = refl
outputs_untouched nodes pid (l ∷ ls) es h =
    ap (λ (b : Bool). outputs_after nodes pid ls (if b then with_value l.label l.target (value_of nodes l.target) es else es))
    (All-head (λ x. is_output_of pid x ≡ false) l ls h)
    ∙ outputs_untouched nodes pid ls es (All-tail (λ x. is_output_of pid x ≡ false) l ls h)

-- links between nodes that were there lead from and to the same values
pub inputs_same : (nodes more : List NodeKind) (pid : ℕ) (ls : List Link) (es : NamedValues) → All (HasRightEnds nodes) ls
    → inputs_after (nodes ++ more) pid ls es ≡ inputs_after nodes pid ls es
inputs_same nodes more pid [] es h = refl
inputs_same nodes more pid (l ∷ ls) es h =
    ap (λ (o : Option Value). inputs_after (nodes ++ more) pid ls (if is_input_of pid l then with_value l.label l.source o es else es))
    (value_stays nodes more l.source (source_is_node nodes l (All-head (HasRightEnds nodes) l ls h)))
    ∙ inputs_same nodes more pid ls (if is_input_of pid l then with_value l.label l.source (value_of nodes l.source) es else es)
    (All-tail (HasRightEnds nodes) l ls h)

pub outputs_same : (nodes more : List NodeKind) (pid : ℕ) (ls : List Link) (es : NamedValues) → All (HasRightEnds nodes) ls
    → outputs_after (nodes ++ more) pid ls es ≡ outputs_after nodes pid ls es
outputs_same nodes more pid [] es h = refl
outputs_same nodes more pid (l ∷ ls) es h =
    ap (λ (o : Option Value). outputs_after (nodes ++ more) pid ls (if is_output_of pid l then with_value l.label l.target o es else es))
    (value_stays nodes more l.target (target_is_node nodes l (All-head (HasRightEnds nodes) l ls h)))
    ∙ outputs_same nodes more pid ls (if is_output_of pid l then with_value l.label l.target (value_of nodes l.target) es else es)
    (All-tail (HasRightEnds nodes) l ls h)

-- the inputs of a process stay where no new link leads to it
pub inputs_stay : (nodes more : List NodeKind) (pid : ℕ) (ls new : List Link) → All (HasRightEnds nodes) ls → NoInput pid new
    → inputs_after (nodes ++ more) pid (ls ++ new) [] ≡ inputs_after nodes pid ls []
inputs_stay nodes more pid ls new h none =
    inputs_append (nodes ++ more) pid ls new []
    ∙ inputs_untouched (nodes ++ more) pid new (inputs_after (nodes ++ more) pid ls []) none
    ∙ inputs_same nodes more pid ls [] h

-- the outputs of a process stay where no new link leads from it
pub outputs_stay : (nodes more : List NodeKind) (pid : ℕ) (ls new : List Link) → All (HasRightEnds nodes) ls → NoOutput pid new
    → outputs_after (nodes ++ more) pid (ls ++ new) [] ≡ outputs_after nodes pid ls []
outputs_stay nodes more pid ls new h none =
    outputs_append (nodes ++ more) pid ls new []
    ∙ outputs_untouched (nodes ++ more) pid new (outputs_after (nodes ++ more) pid ls []) none
    ∙ outputs_same nodes more pid ls [] h

pub branches_before : (tree : ℕ → Option Tree) (pid : ℕ) (ls new : List Link) → NoCallFrom pid new → branches tree pid (ls ++ new) ≡ branches tree pid ls
branches_before tree pid [] new h = none tree pid new h
  where
    none : (tree : ℕ → Option Tree) (pid : ℕ) (new : List Link) → NoCallFrom pid new → branches tree pid new ≡ Some []
    none tree pid [] h = refl
    none tree pid (l ∷ ls) h =
        cond-false (is_call_from pid l) (and_branch (tree l.target) l.label (branches tree pid ls)) (branches tree pid ls) (All-head (λ x. is_call_from pid x ≡ false) l ls h)
        ∙ none tree pid ls (All-tail (λ x. is_call_from pid x ≡ false) l ls h)
branches_before tree pid (l ∷ ls) new h =
    ap (λ (o : Option (List Branch)). if is_call_from pid l then and_branch (tree l.target) l.label o else o) (branches_before tree pid ls new h)

-- branches come from the trees of the called processes alone
pub branches_by : (t u : ℕ → Option Tree) (pid : ℕ) (ls : List Link) → All (λ l. is_call_from pid l ≡ true → t l.target ≡ u l.target) ls
    → branches t pid ls ≡ branches u pid ls
branches_by t u pid [] h = refl
branches_by t u pid (l ∷ ls) h =
    at (is_call_from pid l) (All-head (λ x. is_call_from pid x ≡ true → t x.target ≡ u x.target) l ls h)
    (branches_by t u pid ls (All-tail (λ x. is_call_from pid x ≡ true → t x.target ≡ u x.target) l ls h))
  where
    at : (b : Bool) → (b ≡ true → t l.target ≡ u l.target) → branches t pid ls ≡ branches u pid ls
        → (if b then and_branch (t l.target) l.label (branches t pid ls) else branches t pid ls)
        ≡ (if b then and_branch (u l.target) l.label (branches u pid ls) else branches u pid ls)
    at true e rest = λ i. and_branch (e refl i) l.label (rest i)
    at false e rest = rest

pub called_before : (ls new : List Link) (pid : ℕ) (label : Label) → NoCallFrom pid new → called_under (ls ++ new) pid label ≡ called_under ls pid label
called_before [] new pid label h = none new h
  where
    none : (new : List Link) → NoCallFrom pid new → called_under new pid label ≡ None
    none [] h = refl
    none (l ∷ ls) h =
        ap (λ (b : Bool). if b && bytes_eq l.label label then Some l.target else called_under ls pid label) (All-head (λ x. is_call_from pid x ≡ false) l ls h)
        ∙ none ls (All-tail (λ x. is_call_from pid x ≡ false) l ls h)
called_before (l ∷ ls) new pid label h =
    ap (λ (o : Option ℕ). if is_call_from pid l && bytes_eq l.label label then Some l.target else o) (called_before ls new pid label h)

-- call paths lead where they led, where no new link is a call
pub follow_before : (ls new : List Link) → NoCalls new → (path : Path) (pid : ℕ) → follow (ls ++ new) pid path ≡ follow ls pid path
follow_before ls new h [] pid = refl
follow_before ls new h (label ∷ path) pid =
    ap (option_and_then (λ q. follow (ls ++ new) q path)) (called_before ls new pid label (no_call_from pid new h))
    ∙ at (follow_before ls new h path) (called_under ls pid label)
  where
    at : ((q : ℕ) → follow (ls ++ new) q path ≡ follow ls q path) → (o : Option ℕ)
        → option_and_then (λ q. follow (ls ++ new) q path) o ≡ option_and_then (λ q. follow ls q path) o
    at rest None = refl
    at rest (Some q) = rest q

pub calls_before : (pid : ℕ) (ls new : List Link) → NoCallFrom pid new → calls_from pid (ls ++ new) ≡ calls_from pid ls
calls_before pid [] new h = none new h
  where
    none : (new : List Link) → NoCallFrom pid new → calls_from pid new ≡ 0
    none [] h = refl
    none (l ∷ ls) h =
        cond-false (is_call_from pid l) (suc (calls_from pid ls)) (calls_from pid ls) (All-head (λ x. is_call_from pid x ≡ false) l ls h)
        ∙ none ls (All-tail (λ x. is_call_from pid x ≡ false) l ls h)
calls_before pid (l ∷ ls) new h = ap (λ (n : ℕ). if is_call_from pid l then suc n else n) (calls_before pid ls new h)

pub output_before : (pid : ℕ) (ls new : List Link) → NoOutput pid new → has_output pid (ls ++ new) ≡ has_output pid ls
output_before pid [] new h = none new h
  where
    none : (new : List Link) → NoOutput pid new → has_output pid new ≡ false
    none [] h = refl
    none (l ∷ ls) h =
        ap (λ (b : Bool). b || has_output pid ls) (All-head (λ x. is_output_of pid x ≡ false) l ls h)
        ∙ none ls (All-tail (λ x. is_output_of pid x ≡ false) l ls h)
output_before pid (l ∷ ls) new h = ap (λ (b : Bool). is_output_of pid l || b) (output_before pid ls new h)

-- a test that no new link passes
pub any_before : (p : Link → Bool) (ls new : List Link) → All (λ l. p l ≡ false) new → list_any p (ls ++ new) ≡ list_any p ls
any_before p [] new h = none new h
  where
    none : (new : List Link) → All (λ l. p l ≡ false) new → list_any p new ≡ false
    none [] h = refl
    none (l ∷ ls) h = ap (λ (b : Bool). b || list_any p ls) (All-head (λ x. p x ≡ false) l ls h) ∙ none ls (All-tail (λ x. p x ≡ false) l ls h)
any_before p (l ∷ ls) new h = ap (λ (b : Bool). p l || b) (any_before p ls new h)

-- ---- numbers beyond the nodes

source_differs : (nodes : List NodeKind) (pid : ℕ) → length nodes < pid → (l : Link) → HasRightEnds nodes l → (l.source == pid) ≡ false
source_differs nodes pid lt l h =
    let le : l.source ≤ length nodes = node_number nodes l.source (source_is_node nodes l h) in
    ne_eqb l.source pid (λ e. absurd (omega arith))

target_differs : (nodes : List NodeKind) (pid : ℕ) → length nodes < pid → (l : Link) → HasRightEnds nodes l → (l.target == pid) ≡ false
target_differs nodes pid lt l h =
    let le : l.target ≤ length nodes = node_number nodes l.target (target_is_node nodes l h) in
    ne_eqb l.target pid (λ e. absurd (omega arith))

pub and_false : (a b : Bool) → b ≡ false → a && b ≡ false
and_false true b h = h
and_false false b h = refl

pub no_input_beyond : (nodes : List NodeKind) (pid : ℕ) (ls : List Link) → length nodes < pid → All (HasRightEnds nodes) ls → NoInput pid ls
no_input_beyond nodes pid ls lt = All-weaker (HasRightEnds nodes) (λ l. is_input_of pid l ≡ false) (λ l h. and_false _ _ (target_differs nodes pid lt l h)) ls

pub no_output_beyond : (nodes : List NodeKind) (pid : ℕ) (ls : List Link) → length nodes < pid → All (HasRightEnds nodes) ls → NoOutput pid ls
no_output_beyond nodes pid ls lt = All-weaker (HasRightEnds nodes) (λ l. is_output_of pid l ≡ false) (λ l h. and_false _ _ (source_differs nodes pid lt l h)) ls

pub no_call_beyond : (nodes : List NodeKind) (pid : ℕ) (ls : List Link) → length nodes < pid → All (HasRightEnds nodes) ls → NoCallFrom pid ls
no_call_beyond nodes pid ls lt = All-weaker (HasRightEnds nodes) (λ l. is_call_from pid l ≡ false) (λ l h. and_false _ _ (source_differs nodes pid lt l h)) ls

pub none_target_beyond : (nodes : List NodeKind) (pid : ℕ) (ls : List Link) → length nodes < pid → All (HasRightEnds nodes) ls → All (λ l. (l.target == pid) ≡ false) ls
none_target_beyond nodes pid ls lt = All-weaker (HasRightEnds nodes) (λ l. (l.target == pid) ≡ false) (target_differs nodes pid lt) ls

-- ---- settled processes

pub settled_stays : (ls new : List Link) (r : ProcessRecord) → NoOutput r.node new → NoCallFrom r.node new → is_settled (ls ++ new) r ≡ is_settled ls r
settled_stays ls new r output call =
    λ i. has_ended r.state || (not (output_before r.node ls new output i) && (calls_before r.node ls new call i == counted_calls r.part))

-- the links that pass a test, where no new link does
pub filter_before : (p : Link → Bool) (ls new : List Link) → All (λ l. p l ≡ false) new → filter p (ls ++ new) ≡ filter p ls
filter_before p [] new h = none new h
  where
    none : (new : List Link) → All (λ l. p l ≡ false) new → filter p new ≡ []
    none [] h = refl
    none (l ∷ ls) h = cond-false (p l) (l ∷ filter p ls) (filter p ls) (All-head (λ x. p x ≡ false) l ls h) ∙ none ls (All-tail (λ x. p x ≡ false) l ls h)
filter_before p (l ∷ ls) new h = ap (λ (xs : List Link). if p l then l ∷ xs else xs) (filter_before p ls new h)

-- calls lead to nodes
pub called_is_node : (nodes : List NodeKind) (ls : List Link) (pid : ℕ) (label : Label) (q : ℕ) → All (HasRightEnds nodes) ls
    → called_under ls pid label ≡ Some q → IsNode nodes q
called_is_node nodes [] pid label q h e = absurd (cc)
called_is_node nodes (l ∷ ls) pid label q h e =
    at (is_call_from pid l && bytes_eq l.label label) (called_is_node nodes ls pid label q (All-tail (HasRightEnds nodes) l ls h)) e
  where
    at : (b : Bool) → (called_under ls pid label ≡ Some q → IsNode nodes q) → (if b then Some l.target else called_under ls pid label) ≡ Some q → IsNode nodes q
    at true rest e = let same : l.target ≡ q = cc in subst (IsNode nodes) same (target_is_node nodes l (All-head (HasRightEnds nodes) l ls h))
    at false rest e = rest e

pub path_within : (nodes : List NodeKind) (ls : List Link) → All (HasRightEnds nodes) ls → (path : Path) (pid q : ℕ) → pid ≤ length nodes
    → follow ls pid path ≡ Some q → q ≤ length nodes
path_within nodes ls h [] pid q le e = let same : pid ≡ q = cc in omega arith
path_within nodes ls h (label ∷ path) pid q le e =
    at (called_under ls pid label) refl (λ m n p. path_within nodes ls h path m q n p) e
  where
    at : (o : Option ℕ) → called_under ls pid label ≡ o → ((m : ℕ) → m ≤ length nodes → follow ls m path ≡ Some q → q ≤ length nodes)
        → option_and_then (λ m. follow ls m path) o ≡ Some q → q ≤ length nodes
    at None is rest p = absurd (cc)
    at (Some m) is rest p = rest m (node_number nodes m (called_is_node nodes ls pid label m h is)) p

-- ---- the numbers of records

first_number : (n m : ℕ) (k : NodeKind) (r : ProcessRecord) → process_of r ≡ (n, k) → n < m → r.node < m
first_number n m k r h lt = let e : r.node ≡ n = ap (λ (p : ℕ × NodeKind). p.0) h in omega arith

below_from : (n : ℕ) (nodes : List NodeKind) (rs : List ProcessRecord) → map process_of rs ≡ processes_from n nodes → (m : ℕ) → n + length nodes ≤ m
    → All (λ r. r.node < m) rs
below_from n [] [] h m le = All-nil (λ r. r.node < m)
below_from n [] (r ∷ rs) h m le = absurd (cc)
below_from n (node.Data v ∷ ns) rs h m le = below_from (suc n) ns rs h m (omega arith)
below_from n (node.Calculation ∷ ns) [] h m le = All-nil (λ r. r.node < m)
below_from n (node.Calculation ∷ ns) (r ∷ rs) h m le =
    let p = heads (process_of r) (n, node.Calculation) (map process_of rs) (processes_from (suc n) ns) h in
    All-cons (λ x. x.node < m) r rs (first_number n m node.Calculation r p.0 (omega arith)) (below_from (suc n) ns rs p.1 m (omega arith))
below_from n (node.Workflow ∷ ns) [] h m le = All-nil (λ r. r.node < m)
below_from n (node.Workflow ∷ ns) (r ∷ rs) h m le =
    let p = heads (process_of r) (n, node.Workflow) (map process_of rs) (processes_from (suc n) ns) h in
    All-cons (λ x. x.node < m) r rs (first_number n m node.Workflow r p.0 (omega arith)) (below_from (suc n) ns rs p.1 m (omega arith))

-- the number of a process is that of a node
pub records_below : (nodes : List NodeKind) (rs : List ProcessRecord) → map process_of rs ≡ processes_from 1 nodes → All (λ r. r.node < suc (length nodes)) rs
records_below nodes rs h = below_from 1 nodes rs h (suc (length nodes)) (omega arith)
