-- The links of a submission: where they lead, and that they break no rule.
use Rattle.std.proofs.Common.{◌≡◌, ℕ, suc, Bool, false, Option, Some, List, [], ◌∷◌, ◌++◌, length, map, refl, sym, ap, ◌∙◌, subst, add-one}
use Rattle.std.specs.Prelude.{All, Any, IsSomeAnd, ◌≢◌, ◌==◌, ◌&&◌}
use Rattle.std.specs.Ordering.{nat_cmp}
use Rattle.std.specs.declared.cmp.Ordering.TheVariants.{Less}
use Rattle.std.specs.Cmp.Lexicographic.{slice_cmp}
use Rattle.std.specs.List.{AllByRecursion}
use Rattle.std.specs.List.Sorted.{IsStrictlySortedBy}
use Rattle.std.specs.Map.{keys_of}
use Rattle.std.proofs.lemmas.Cmp.{nat_list_cmp_total}
use Rattle.std.proofs.lemmas.Bool.{ne_eqb}
use Rattle.std.proofs.lemmas.List.{append_assoc, length-append}
use Rattle.std.proofs.lemmas.List.Elements.{All-nil, All-cons, All-head, All-tail, All-weaker, All-push}
use Rattle.wc_value.specs.Ascending.{Ascends}
use Rattle.wc_value.specs.declared.value.Value.{Value}
use Rattle.wc_graph.specs.Refusals.{IsAllowed}
use Rattle.wc_graph.specs.Rules.{node_of, Leaves, Enters, IsCall, TakesTriple, TakesLabel, SharesCreated, SharesCalled}
use Rattle.wc_graph.specs.declared.node.NodeKind.{NodeKind}
use Rattle.wc_graph.specs.declared.link.Link.{Link}
use Rattle.wc_graph.specs.declared.link.LinkType.{LinkType}
use Rattle.wc_graph.specs.declared.link.LinkType.TheVariants as link
use Rattle.wc_semantics.specs.Rules.{Values}
use Rattle.wc_state.specs.declared.record.ProcessKind.{ProcessKind}
use Rattle.wc_state.specs.declared.record.ProcessKind.TheVariants as kind
use Rattle.wc_world.specs.Records.{calls, gives_output, takes_input, is_input_of, is_output_of, process_node}
use Rattle.wc_machine.specs.Submissions.{input_link}
use Rattle.wc_machine.proofs.Frames.{and_false, NoInput, NoOutput, NoCalls}
use Rattle.wc_machine.proofs.Submitted.{at_length, data_node, linked}

-- ---- what they are

no_output : (k : ProcessKind) → gives_output (input_link k) ≡ false
no_output kind.Function = refl
no_output kind.Job = refl
no_output kind.Chain = refl

no_call : (k : ProcessKind) → calls (input_link k) ≡ false
no_call kind.Function = refl
no_call kind.Job = refl
no_call kind.Chain = refl

pub linked_no_output : (k : ProcessKind) (source pid q : ℕ) (is : Values) → NoOutput q (linked (input_link k) source pid is)
linked_no_output k source pid q [] = All-nil (λ l. is_output_of q l ≡ false)
linked_no_output k source pid q (i ∷ is) =
    All-cons (λ l. is_output_of q l ≡ false) (record { source = source; target = pid; link = input_link k; label = i.0 }) (linked (input_link k) (suc source) pid is)
    (ap (λ (b : Bool). b && (source == q)) (no_output k)) (linked_no_output k (suc source) pid q is)

pub linked_no_calls : (k : ProcessKind) (source pid : ℕ) (is : Values) → NoCalls (linked (input_link k) source pid is)
linked_no_calls k source pid [] = All-nil (λ l. calls l.link ≡ false)
linked_no_calls k source pid (i ∷ is) =
    All-cons (λ l. calls l.link ≡ false) (record { source = source; target = pid; link = input_link k; label = i.0 }) (linked (input_link k) (suc source) pid is)
    (no_call k) (linked_no_calls k (suc source) pid is)

-- they lead to their process alone
pub linked_no_input : (type : LinkType) (source pid q : ℕ) (is : Values) → pid ≢ q → NoInput q (linked type source pid is)
linked_no_input type source pid q [] ne = All-nil (λ l. is_input_of q l ≡ false)
linked_no_input type source pid q (i ∷ is) ne =
    All-cons (λ l. is_input_of q l ≡ false) (record { source = source; target = pid; link = type; label = i.0 }) (linked type (suc source) pid is)
    (and_false (takes_input type) (pid == q) (ne_eqb pid q ne)) (linked_no_input type (suc source) pid q is ne)

-- ---- the nodes from which they lead

-- nodes from this number on have the values
abbrev pub AreData : List NodeKind → ℕ → Values → Type 0
AreData nodes source [] = Unit {0}
AreData nodes source (i ∷ is) = (node_of nodes source ≡ Some (data_node i)) × AreData nodes (suc source) is

pub are_data : (front : List NodeKind) (is : Values) (rest : List NodeKind) → AreData (front ++ (map data_node is ++ rest)) (suc (length front)) is
are_data front [] rest = tt
are_data front (i ∷ is) rest =
    let behind : List NodeKind = map data_node is ++ rest in
    let longer : length (front ++ data_node i ∷ []) ≡ suc (length front) = length-append front (data_node i ∷ []) ∙ add-one (length front) in (
      at_length front (data_node i) behind,
      subst (λ (n : ℕ). AreData (front ++ data_node i ∷ behind) (suc n) is) longer
          (subst (λ (ns : List NodeKind). AreData ns (suc (length (front ++ data_node i ∷ []))) is) (append_assoc front (data_node i ∷ []) behind)
          (are_data (front ++ data_node i ∷ []) is rest)),
    )

-- ---- labels

-- no two of these have one name
abbrev pub AreDistinct : Values → Type 0
AreDistinct [] = Unit {0}
AreDistinct (i ∷ is) = All (λ j. i.0 ≢ j.0) is × AreDistinct is

not_below_itself : (a : List ℕ) → slice_cmp nat_cmp a a ≡ Less → ⊥
not_below_itself a h = let e = nat_list_cmp_total.antisymm a a in absurd (cc)

below_differs : (a : List ℕ) (is : Values) → AllByRecursion (λ k. slice_cmp nat_cmp a k ≡ Less) (keys_of is) → All (λ j. a ≢ j.0) is
below_differs a [] h = All-nil (λ j. a ≢ j.0)
below_differs a (i ∷ is) h =
    All-cons (λ j. a ≢ j.0) i is (λ e. not_below_itself a (subst (λ k. slice_cmp nat_cmp a k ≡ Less) (sym e) h.0)) (below_differs a is h.1)

pub distinct : (is : Values) → Ascends is → AreDistinct is
unfolding IsStrictlySortedBy
distinct [] h = tt
distinct (i ∷ is) h = (below_differs i.0 is h.0, distinct is h.1)

-- a link to the process has none of these labels
abbrev pub LacksLabels : ℕ → Values → Link → Type 0
LacksLabels pid is l = l.target ≡ pid → All (λ j. l.label ≢ j.0) is

-- ---- no rule is broken

leaves : (k : ProcessKind) (i : List ℕ × Value) → Leaves (input_link k) (data_node i)
leaves kind.Function i = tt
leaves kind.Job i = tt
leaves kind.Chain i = tt

enters : (k : ProcessKind) → Enters (input_link k) (process_node k)
enters kind.Function = tt
enters kind.Job = tt
enters kind.Chain = tt

pub calls_nothing : (k : ProcessKind) → IsCall (input_link k) → ⊥
calls_nothing kind.Function h = h
calls_nothing kind.Job h = h
calls_nothing kind.Chain h = h

creates_nothing : (k : ProcessKind) → input_link k ≡ link.Create → ⊥
creates_nothing kind.Function h = cc
creates_nothing kind.Job h = cc
creates_nothing kind.Chain h = cc

triple_shares : (k : ProcessKind) (a b : Link) → TakesTriple (input_link k) a b → (a.target ≡ b.target) × (a.label ≡ b.label)
triple_shares kind.Function a b h = (h.2, h.3)
triple_shares kind.Job a b h = (h.2, h.3)
triple_shares kind.Chain a b h = (h.2, h.3)

label_shares : (k : ProcessKind) (a b : Link) → TakesLabel (input_link k) a b → (a.target ≡ b.target) × (a.label ≡ b.label)
label_shares kind.Function a b h = (h.1, h.2)
label_shares kind.Job a b h = (h.1, h.2)
label_shares kind.Chain a b h = (h.1, h.2)

any_none : {X : Type 0} (P Q : X → Type 0) (xs : List X) → All Q xs → ((x : X) → Q x → P x → ⊥) → Any P xs → ⊥
any_none P Q xs all apart h = apart h.1 (subst Q h.3 (all h.0 h.1 h.2)) h.4

some_is : (P : NodeKind → Type 0) (o : Option NodeKind) (n : NodeKind) → o ≡ Some n → P n → IsSomeAnd o P
some_is P o n e h = subst (λ (x : Option NodeKind). IsSomeAnd x P) (sym e) h

pub input_allowed : (k : ProcessKind) (nodes : List NodeKind) (links : List Link) (source pid : ℕ) (i : List ℕ × Value) (is : Values)
    → node_of nodes source ≡ Some (data_node i) → node_of nodes pid ≡ Some (process_node k) → All (LacksLabels pid (i ∷ is)) links
    → IsAllowed nodes links (record { source = source; target = pid; link = input_link k; label = i.0 })
input_allowed k nodes links source pid i is value process free =
    let l : Link = record { source = source; target = pid; link = input_link k; label = i.0 } in
    let apart : (a : Link) → LacksLabels pid (i ∷ is) a → (a.target ≡ pid) × (a.label ≡ i.0) → ⊥
    = λ a lacks h. All-head (λ j. a.label ≢ j.0) i is (lacks h.0) h.1 in
    record {
      ends = (
        some_is (Leaves (input_link k)) (node_of nodes source) (data_node i) value (leaves k i),
        some_is (Enters (input_link k)) (node_of nodes pid) (process_node k) process (enters k),
      );
      triple = any_none (λ a. TakesTriple (input_link k) a l) (LacksLabels pid (i ∷ is)) links free (λ a lacks h. apart a lacks (triple_shares k a l h));
      label = any_none (λ a. TakesLabel (input_link k) a l) (LacksLabels pid (i ∷ is)) links free (λ a lacks h. apart a lacks (label_shares k a l h));
      creator = any_none (λ a. SharesCreated a l) (LacksLabels pid (i ∷ is)) links free (λ a lacks h. creates_nothing k h.1);
      caller = any_none (λ a. SharesCalled a l) (LacksLabels pid (i ∷ is)) links free (λ a lacks h. calls_nothing k h.1);
    }

-- after the link with the first label, the links lack the other labels
pub labels_left : (links : List Link) (l : Link) (pid : ℕ) (i : List ℕ × Value) (is : Values) → l.label ≡ i.0 → All (λ j. i.0 ≢ j.0) is
    → All (LacksLabels pid (i ∷ is)) links → All (LacksLabels pid is) (links ++ l ∷ [])
labels_left links l pid i is same differ free =
    All-push (LacksLabels pid is) links l
    (All-weaker (LacksLabels pid (i ∷ is)) (LacksLabels pid is) (λ a lacks e. All-tail (λ j. a.label ≢ j.0) i is (lacks e)) links free)
    (λ e. All-weaker (λ j. i.0 ≢ j.0) (λ j. l.label ≢ j.0) (λ j ne q. ne (sym same ∙ q)) is differ)
