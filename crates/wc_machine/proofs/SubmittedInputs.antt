-- The recorded inputs of a submitted process are those with which it was submitted.
use Rattle.std.proofs.Common.{◌≡◌, ℕ, suc, ◌<◌, Bool, true, Option, Some, List, [], ◌∷◌, ◌++◌, length, get_or, refl, sym, ap, ◌∙◌}
use Rattle.std.specs.Prelude.{All, ◌==◌, ◌&&◌, if◌then◌else◌, option_and_then}
use Rattle.std.specs.Str.{bytes_eq}
use Rattle.std.specs.Ordering.{nat_cmp, is_lt}
use Rattle.std.specs.declared.cmp.Ordering.TheVariants.{Less}
use Rattle.std.specs.Cmp.Lexicographic.{slice_cmp}
use Rattle.std.specs.List.{AllByRecursion}
use Rattle.std.specs.List.Sorted.{IsStrictlySortedBy}
use Rattle.std.specs.Map.{keys_of}
use Rattle.std.proofs.lemmas.Bool.{eq-eqb, cond-true}
use Rattle.std.proofs.lemmas.List.{append_assoc, append-nil}
use Rattle.std.proofs.lemmas.List.Elements.{All-nil, All-cons, All-head, All-tail, All-push}
use Rattle.wc_value.specs.Ascending.{Ascends, before, put}
use Rattle.wc_value.specs.declared.value.Value.{Value}
use Rattle.wc_graph.specs.Rules.{HasRightEnds}
use Rattle.wc_graph.specs.declared.node.NodeKind.{NodeKind}
use Rattle.wc_graph.specs.declared.link.Link.{Link}
use Rattle.wc_semantics.specs.Rules.{Values}
use Rattle.wc_state.specs.declared.environment.NodeValue.{NodeValue}
use Rattle.wc_state.specs.declared.record.ProcessKind.{ProcessKind}
use Rattle.wc_state.specs.declared.record.ProcessKind.TheVariants as kind
use Rattle.wc_world.specs.Records.{takes_input}
use Rattle.wc_world.specs.Trees.{NamedValues, data_of, value_of, with_value, inputs_after, values_alone}
use Rattle.wc_machine.specs.Submissions.{input_link}
use Rattle.wc_machine.proofs.Frames.{inputs_append, inputs_untouched, no_input_beyond}
use Rattle.wc_machine.proofs.Submitted.{linked}
use Rattle.wc_machine.proofs.SubmittedLinks.{AreData}

-- inputs with the nodes that have them, which follow each other from this one on
abbrev pub named : ℕ → Values → NamedValues
named source [] = []
named source (i ∷ is) = (i.0, record { node = source; value = i.1 }) ∷ named (suc source) is

named_alone : (source : ℕ) (is : Values) → values_alone (named source is) ≡ is
named_alone source [] = refl
named_alone source (i ∷ is) = ap (λ (l : Values). i ∷ l) (named_alone (suc source) is)

-- ---- names in order

abbrev IsBefore : List ℕ → List ℕ × NodeValue → Type 0
IsBefore name e = before e.0 name ≡ true

put_last : (name : List ℕ) (v : NodeValue) (es : NamedValues) → All (IsBefore name) es → put name v es ≡ es ++ (name, v) ∷ []
put_last name v [] h = refl
put_last name v (e ∷ es) h =
    cond-true (before e.0 name) (e ∷ put name v es) (if bytes_eq e.0 name then (name, v) ∷ es else (name, v) ∷ e ∷ es) (All-head (IsBefore name) e es h)
    ∙ ap (λ (l : NamedValues). e ∷ l) (put_last name v es (All-tail (IsBefore name) e es h))

-- each name stands before those behind it
abbrev IsOrdered : Values → Type 0
IsOrdered [] = Unit {0}
IsOrdered (i ∷ is) = All (λ j. before i.0 j.0 ≡ true) is × IsOrdered is

below_before : (a : List ℕ) (is : Values) → AllByRecursion (λ k. slice_cmp nat_cmp a k ≡ Less) (keys_of is) → All (λ j. before a j.0 ≡ true) is
below_before a [] h = All-nil (λ j. before a j.0 ≡ true)
below_before a (i ∷ is) h = All-cons (λ j. before a j.0 ≡ true) i is (ap is_lt h.0) (below_before a is h.1)

ordered : (is : Values) → Ascends is → IsOrdered is
unfolding IsStrictlySortedBy
ordered [] h = tt
ordered (i ∷ is) h = (below_before i.0 is h.0, ordered is h.1)

-- ---- link by link

leads_to : (k : ProcessKind) (pid : ℕ) → takes_input (input_link k) && (pid == pid) ≡ true
leads_to kind.Function pid = eq-eqb pid pid refl
leads_to kind.Job pid = eq-eqb pid pid refl
leads_to kind.Chain pid = eq-eqb pid pid refl

gathered : (k : ProcessKind) (nodes : List NodeKind) (source pid : ℕ) (is : Values) (es : NamedValues) → AreData nodes source is → IsOrdered is
    → All (λ i. All (IsBefore i.0) es) is → inputs_after nodes pid (linked (input_link k) source pid is) es ≡ es ++ named source is
gathered k nodes source pid [] es values order behind = sym (append-nil es)
gathered k nodes source pid (i ∷ is) es values order behind =
    let e : List ℕ × NodeValue = (i.0, record { node = source; value = i.1 }) in
    let value : value_of nodes source ≡ Some i.1 = ap (option_and_then data_of) values.0 in
    let step : (if takes_input (input_link k) && (pid == pid) then with_value i.0 source (value_of nodes source) es else es) ≡ es ++ e ∷ []
    = ap (λ (b : Bool). if b then with_value i.0 source (value_of nodes source) es else es) (leads_to k pid)
    ∙ ap (λ (o : Option Value). with_value i.0 source o es) value
    ∙ put_last i.0 e.1 es (All-head (λ j. All (IsBefore j.0) es) i is behind) in
    ap (inputs_after nodes pid (linked (input_link k) (suc source) pid is)) step
    ∙ gathered k nodes (suc source) pid is (es ++ e ∷ []) values.1 order.1
    (λ n d lt. All-push (IsBefore (get_or is n d).0) es e (All-tail (λ j. All (IsBefore j.0) es) i is behind n d lt) (order.0 n d lt))
    ∙ append_assoc es (e ∷ []) (named (suc source) is)

nothing_before : (is : Values) → All (λ i. All (IsBefore i.0) []) is
nothing_before is = λ n d lt. All-nil (IsBefore (get_or is n d).0)

-- the inputs of a new process, whose number is beyond the nodes that the other links join
pub inputs_gathered : (k : ProcessKind) (nodes more : List NodeKind) (links : List Link) (source pid : ℕ) (is : Values) → length nodes < pid
    → All (HasRightEnds nodes) links → AreData (nodes ++ more) source is → Ascends is
    → values_alone (inputs_after (nodes ++ more) pid (links ++ linked (input_link k) source pid is) []) ≡ is
inputs_gathered k nodes more links source pid is beyond ends values ascend =
    let new : List Link = linked (input_link k) source pid is in
    let none : inputs_after (nodes ++ more) pid links [] ≡ []
    = inputs_untouched (nodes ++ more) pid links [] (no_input_beyond nodes pid links beyond ends) in
    ap values_alone (inputs_append (nodes ++ more) pid links new [] ∙ ap (inputs_after (nodes ++ more) pid new) none
    ∙ gathered k (nodes ++ more) source pid is [] values (ordered is ascend) (nothing_before is))
    ∙ named_alone source is
