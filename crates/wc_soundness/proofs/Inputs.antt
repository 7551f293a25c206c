-- The recorded inputs of a called process are the values of its arguments.
use Rattle.std.proofs.Common.{◌≡◌, ℕ, suc, ◌+◌, ◌≤◌, Bool, true, false, Option, Some, None, List, [], ◌∷◌, ◌++◌, length, get_or, refl, sym, ap, subst, ◌∙◌, arith, add-one}
use Rattle.std.specs.Prelude.{◌==◌, ◌&&◌, All, if◌then◌else◌, option_and_then}
use Rattle.std.specs.Str.{bytes_eq}
use Rattle.std.specs.Ordering.{nat_cmp, is_lt}
use Rattle.std.specs.declared.cmp.Ordering.TheVariants.{Less}
use Rattle.std.specs.Cmp.Lexicographic.{slice_cmp}
use Rattle.std.specs.List.{AllByRecursion}
use Rattle.std.specs.List.Sorted.{IsStrictlySortedBy}
use Rattle.std.specs.Map.{keys_of}
use Rattle.std.proofs.lemmas.Bool.{cond-true, eq-eqb}
use Rattle.std.proofs.lemmas.List.{append_assoc, append-nil, length-append}
use Rattle.std.proofs.lemmas.List.Elements.{All-nil, All-cons, All-head, All-tail, All-push, All-append, All-weaker}
use Rattle.wc_value.specs.Ascending.{Ascends, before, put}
use Rattle.wc_value.specs.declared.value.Value.{Value}
use Rattle.wc_graph.specs.declared.link.Link.{Link}
use Rattle.wc_graph.specs.declared.node.NodeKind.{NodeKind}
use Rattle.wc_graph.specs.declared.node.NodeKind.TheVariants as made_of
use Rattle.wc_graph.specs.Rules.{node_of}
use Rattle.wc_semantics.specs.Rules.{Values}
use Rattle.wc_state.specs.declared.environment.NodeValue.{NodeValue}
use Rattle.wc_state.specs.declared.record.Checkpoint.{Checkpoint}
use Rattle.wc_state.specs.declared.record.ProcessKind.{ProcessKind}
use Rattle.wc_state.specs.declared.record.ProcessRecord.{ProcessRecord}
use Rattle.wc_world.specs.Consistent.{IsConsistent}
use Rattle.wc_world.specs.Records.{is_input_of, takes_input, process_node}
use Rattle.wc_world.specs.Trees.{NamedValues, data_of, value_of, with_value, inputs_after, values_alone}
use Rattle.wc_world.specs.World.{World}
use Rattle.wc_world.proofs.ReachedLists.{node_grown}
use Rattle.wc_machine.specs.Calls.{Arguments, called_number, kind_of_callee}
use Rattle.wc_machine.specs.Recorded.{recorded_inputs}
use Rattle.wc_machine.specs.Steps.{Argument, node, plain, Call, values_in}
use Rattle.wc_machine.specs.Submissions.{input_link}
use Rattle.wc_machine.proofs.Frames.{NoInput, inputs_append, inputs_untouched, no_input_beyond}
use Rattle.wc_machine.proofs.Submitted.{at_length}
use Rattle.wc_turn_laws.specs.Nodes.{InArgument, InCall}
use Rattle.wc_soundness.proofs.SeenWorlds.{IsRead}
use Rattle.wc_soundness.specs.Submitted.{data_nodes, input_links, its_call_link, call_nodes, call_links, calls_nodes, calls_links, EachCall, first_free, submitted}
use Rattle.wc_soundness.proofs.Links.{input_takes, call_inputs_elsewhere, call_link_is_no_input, no_inputs}
use Rattle.wc_soundness.proofs.Records.{each_by}
use Rattle.wc_soundness.proofs.Worlds.{with_call, number_after}

-- arguments with the nodes that have them, where the first plain one has this node
abbrev pub named_arguments : ℕ → Arguments → NamedValues
named_arguments next [] = []
named_arguments next ((port, node n) ∷ rest) = (port, record { node = n.node; value = n.value }) ∷ named_arguments next rest
named_arguments next ((port, plain v) ∷ rest) = (port, record { node = next; value = v }) ∷ named_arguments (suc next) rest

pub named_alone : (next : ℕ) (args : Arguments) → values_alone (named_arguments next args) ≡ values_in args
named_alone next [] = refl
named_alone next ((port, node n) ∷ rest) = ap (λ (l : Values). (port, n.value) ∷ l) (named_alone next rest)
named_alone next ((port, plain v) ∷ rest) = ap (λ (l : Values). (port, v) ∷ l) (named_alone (suc next) rest)

-- each argument has its value in its node
abbrev pub AreStored : List NodeKind → ℕ → Arguments → Type 0
AreStored nodes next [] = Unit {0}
AreStored nodes next ((port, node n) ∷ rest) = (value_of nodes n.node ≡ Some n.value) × AreStored nodes next rest
AreStored nodes next ((port, plain v) ∷ rest) = (value_of nodes next ≡ Some v) × AreStored nodes (suc next) rest

-- ---- names in order

abbrev IsBefore : List ℕ → List ℕ × NodeValue → Type 0
IsBefore name e = before e.0 name ≡ true

put_last : (name : List ℕ) (v : NodeValue) (es : NamedValues) → All (IsBefore name) es → put name v es ≡ es ++ (name, v) ∷ []
put_last name v [] h = refl
put_last name v (e ∷ es) h =
    cond-true (before e.0 name) (e ∷ put name v es) (if bytes_eq e.0 name then (name, v) ∷ es else (name, v) ∷ e ∷ es) (All-head (IsBefore name) e es h)
    ∙ ap (λ (l : NamedValues). e ∷ l) (put_last name v es (All-tail (IsBefore name) e es h))

-- each port stands before those behind it
abbrev IsOrdered : Arguments → Type 0
IsOrdered [] = Unit {0}
IsOrdered (a ∷ rest) = All (λ b. before a.0 b.0 ≡ true) rest × IsOrdered rest

below_before : (port : List ℕ) (args : Arguments) → AllByRecursion (λ k. slice_cmp nat_cmp port k ≡ Less) (keys_of args) → All (λ b. before port b.0 ≡ true) args
below_before port [] h = All-nil (λ b. before port b.0 ≡ true)
below_before port (a ∷ rest) h = All-cons (λ b. before port b.0 ≡ true) a rest (ap is_lt h.0) (below_before port rest h.1)

ordered : (args : Arguments) → Ascends args → IsOrdered args
unfolding IsStrictlySortedBy
ordered [] h = tt
ordered (a ∷ rest) h = (below_before a.0 rest h.0, ordered rest h.1)

-- ---- link by link

leads_to : (k : ProcessKind) (pid : ℕ) → takes_input (input_link k) && (pid == pid) ≡ true
leads_to k pid = (λ i. input_takes k i && (pid == pid)) ∙ eq-eqb pid pid refl

-- one link more puts its value last
one_more : (k : ProcessKind) (nodes : List NodeKind) (source pid : ℕ) (port : List ℕ) (v : Value) (es : NamedValues) → value_of nodes source ≡ Some v → All (IsBefore port) es
    → (if takes_input (input_link k) && (pid == pid) then with_value port source (value_of nodes source) es else es) ≡ es ++ (port, record { node = source; value = v }) ∷ []
one_more k nodes source pid port v es stored behind =
    ap (λ (b : Bool). if b then with_value port source (value_of nodes source) es else es) (leads_to k pid)
    ∙ ap (λ (o : Option Value). with_value port source o es) stored
    ∙ put_last port (record { node = source; value = v }) es behind

-- the ports that are left stand behind one more
behind_more : (port : List ℕ) (v : NodeValue) (x : Argument) (rest : Arguments) (es : NamedValues) → All (λ b. before port b.0 ≡ true) rest
    → All (λ a. All (IsBefore a.0) es) ((port, x) ∷ rest) → All (λ a. All (IsBefore a.0) (es ++ (port, v) ∷ [])) rest
behind_more port v x rest es order behind = λ n d lt.
    All-push (IsBefore (get_or rest n d).0) es (port, v) (All-tail (λ a. All (IsBefore a.0) es) (port, x) rest behind n d lt) (order n d lt)

gathered : (k : ProcessKind) (nodes : List NodeKind) (next pid : ℕ) (args : Arguments) (es : NamedValues) → AreStored nodes next args → IsOrdered args
    → All (λ a. All (IsBefore a.0) es) args → inputs_after nodes pid (input_links (input_link k) next pid args) es ≡ es ++ named_arguments next args
gathered k nodes next pid [] es stored order behind = sym (append-nil es)
gathered k nodes next pid ((port, node n) ∷ rest) es stored order behind =
    let v : NodeValue = record { node = n.node; value = n.value } in
    ap (inputs_after nodes pid (input_links (input_link k) next pid rest))
    (one_more k nodes n.node pid port n.value es stored.0 (All-head (λ a. All (IsBefore a.0) es) (port, node n) rest behind))
    ∙ gathered k nodes next pid rest (es ++ (port, v) ∷ []) stored.1 order.1 (behind_more port v (node n) rest es order.0 behind)
    ∙ append_assoc es ((port, v) ∷ []) (named_arguments next rest)
gathered k nodes next pid ((port, plain x) ∷ rest) es stored order behind =
    let v : NodeValue = record { node = next; value = x } in
    ap (inputs_after nodes pid (input_links (input_link k) (suc next) pid rest))
    (one_more k nodes next pid port x es stored.0 (All-head (λ a. All (IsBefore a.0) es) (port, plain x) rest behind))
    ∙ gathered k nodes (suc next) pid rest (es ++ (port, v) ∷ []) stored.1 order.1 (behind_more port v (plain x) rest es order.0 behind)
    ∙ append_assoc es ((port, v) ∷ []) (named_arguments (suc next) rest)

nothing_before : (args : Arguments) → All (λ a. All (IsBefore a.0) []) args
nothing_before args = λ n d lt. All-nil (IsBefore (get_or args n d).0)

-- ---- the nodes of arguments

-- a node that has a value keeps it
pub value_grown : (nodes more : List NodeKind) (id : ℕ) (v : Value) → value_of nodes id ≡ Some v → value_of (nodes ++ more) id ≡ Some v
value_grown nodes more id v h = by (node_of nodes id) refl h
  where
    by : (o : Option NodeKind) → node_of nodes id ≡ o → option_and_then data_of o ≡ Some v → value_of (nodes ++ more) id ≡ Some v
    by None e p = absurd (cc)
    by (Some k) e p = ap (option_and_then data_of) (node_grown nodes more id k e) ∙ p

pub read_grown : (nodes more : List NodeKind) (args : Arguments) → All (λ a. InArgument (IsRead nodes) a.1) args → All (λ a. InArgument (IsRead (nodes ++ more)) a.1) args
read_grown nodes more args h = All-weaker (λ a. InArgument (IsRead nodes) a.1) (λ a. InArgument (IsRead (nodes ++ more)) a.1) (λ a. by a.1) args h
  where
    by : (x : Argument) → InArgument (IsRead nodes) x → InArgument (IsRead (nodes ++ more)) x
    by (node n) p = value_grown nodes more n.node n.value p
    by (plain v) p = tt

-- after nodes that have the named ones stand the plain ones, one behind the other
pub are_stored : (front : List NodeKind) (args : Arguments) (rest : List NodeKind) (next : ℕ) → next ≡ suc (length front) → All (λ a. InArgument (IsRead front) a.1) args
    → AreStored (front ++ (data_nodes args ++ rest)) next args
are_stored front [] rest next e h = tt
are_stored front ((port, node n) ∷ args) rest next e h = (
  value_grown front (data_nodes args ++ rest) n.node n.value (All-head (λ a. InArgument (IsRead front) a.1) (port, node n) args h),
  are_stored front args rest next e (All-tail (λ a. InArgument (IsRead front) a.1) (port, node n) args h),
)
are_stored front ((port, plain v) ∷ args) rest next e h =
    let k : NodeKind = made_of.Data v in
    let longer : suc next ≡ suc (length (front ++ k ∷ [])) = ap suc (e ∙ sym (add-one (length front)) ∙ sym (length-append front (k ∷ []))) in (
      ap (λ (n : ℕ). value_of (front ++ (k ∷ (data_nodes args ++ rest))) n) e ∙ ap (option_and_then data_of) (at_length front k (data_nodes args ++ rest)),
      subst (λ (ns : List NodeKind). AreStored ns (suc next) args) (append_assoc front (k ∷ []) (data_nodes args ++ rest))
          (are_stored (front ++ k ∷ []) args rest (suc next) longer
          (read_grown front (k ∷ []) args (All-tail (λ a. InArgument (IsRead front) a.1) (port, plain v) args h))),
    )

-- ---- all calls

module _ (w : World) (r : ProcessRecord) where
  -- each call's arguments are stored
  pub all_stored : (u : World) (next : ℕ) (calls : List Call) → next ≡ length u.nodes + 1 → All (InCall (IsRead u.nodes)) calls
      → EachCall w r (λ n c. AreStored (u.nodes ++ calls_nodes w r calls) n c.args) next calls
  all_stored u next [] e h = tt
  all_stored u next (c ∷ cs) e h =
      let process : List NodeKind = process_node (kind_of_callee w r c) ∷ [] in
      let further : ℕ = suc (called_number w r next c) in
      let read : All (InCall (IsRead (with_call w r u next c).nodes)) cs
      = All-weaker (InCall (IsRead u.nodes)) (InCall (IsRead (with_call w r u next c).nodes)) (λ x. read_grown u.nodes (call_nodes w r c) x.args) cs
      (All-tail (InCall (IsRead u.nodes)) c cs h) in (
        subst (λ (ns : List NodeKind). AreStored (u.nodes ++ ns) next c.args) (sym (append_assoc (data_nodes c.args) process (calls_nodes w r cs)))
            (are_stored u.nodes c.args (process ++ calls_nodes w r cs) next (e ∙ add-one (length u.nodes)) (All-head (InCall (IsRead u.nodes)) c cs h)),
        subst (λ (ns : List NodeKind). EachCall w r (λ n x. AreStored ns n x.args) further cs) (append_assoc u.nodes (call_nodes w r c) (calls_nodes w r cs))
            (all_stored (with_call w r u next c) further cs (number_after w r u next c e) read),
      )

  -- the links of one call give its process its arguments
  call_inputs : (nodes : List NodeKind) (n : ℕ) (c : Call) → AreStored nodes n c.args → Ascends c.args
      → inputs_after nodes (called_number w r n c) (call_links w r n c) [] ≡ named_arguments n c.args
  call_inputs nodes n c stored ascend =
      let k : ProcessKind = kind_of_callee w r c in
      let number : ℕ = called_number w r n c in
      let l : Link = its_call_link w r n c in
      inputs_append nodes number (input_links (input_link k) n number c.args) (l ∷ []) []
      ∙ ap (inputs_after nodes number (l ∷ [])) (gathered k nodes n number c.args [] stored (ordered c.args ascend) (nothing_before c.args))
      ∙ inputs_untouched nodes number (l ∷ []) (named_arguments n c.args)
      (All-cons (λ x. is_input_of number x ≡ false) l [] (call_link_is_no_input w r number n c) (All-nil (λ x. is_input_of number x ≡ false)))

  -- no link leads as an input to a process with this number or one beyond
  abbrev NoneBeyond : ℕ → List Link → Type 0
  NoneBeyond next ls = (q : ℕ) → next ≤ q → NoInput q ls

  pub children_inputs : (nodes : List NodeKind) (front : List Link) (next : ℕ) (calls : List Call) → NoneBeyond next front
      → EachCall w r (λ n c. AreStored nodes n c.args) next calls → All (λ c. Ascends c.args) calls
      → EachCall w r (λ n c. inputs_after nodes (called_number w r n c) (front ++ calls_links w r next calls) [] ≡ named_arguments n c.args) next calls
  children_inputs nodes front next [] none stored ascend = tt
  children_inputs nodes front next (c ∷ cs) none stored ascend =
      let number : ℕ = called_number w r next c in
      let own : List Link = call_links w r next c in
      let rest : List Link = calls_links w r (suc number) cs in
      let further : NoneBeyond (suc number) (front ++ own)
      = λ q le. All-append (λ l. is_input_of q l ≡ false) front own (none q (omega arith)) (call_inputs_elsewhere w r q next c (λ e. absurd (omega arith))) in (
        inputs_append nodes number front (own ++ rest) []
            ∙ ap (inputs_after nodes number (own ++ rest)) (inputs_untouched nodes number front [] (none number (omega arith)))
            ∙ inputs_append nodes number own rest []
            ∙ ap (inputs_after nodes number rest) (call_inputs nodes next c stored.0 (All-head (λ x. Ascends x.args) c cs ascend))
            ∙ inputs_untouched nodes number rest (named_arguments next c.args) (no_inputs w r number (suc number) cs (omega arith)),
        subst (λ (ls : List Link). EachCall w r (λ n x. inputs_after nodes (called_number w r n x) ls [] ≡ named_arguments n x.args) (suc number) cs)
            (append_assoc front own rest)
            (children_inputs nodes (front ++ own) (suc number) cs further stored.1 (All-tail (λ x. Ascends x.args) c cs ascend)),
      )

  -- ---- the world after

  module _ (consistent : IsConsistent w) (d : Checkpoint) (calls : List Call) (read : All (InCall (IsRead w.nodes)) calls) (ascend : All (λ c. Ascends c.args) calls) where
    pub called_inputs : EachCall w r (λ n c. recorded_inputs (submitted w r d calls) (called_number w r n c) ≡ values_in c.args) (first_free w r) calls
    called_inputs =
        let nodes : List NodeKind = w.nodes ++ calls_nodes w r calls in
        let ls : List Link = w.links ++ calls_links w r (first_free w r) calls in
        each_by w r (λ n c. inputs_after nodes (called_number w r n c) ls [] ≡ named_arguments n c.args)
        (λ n c. recorded_inputs (submitted w r d calls) (called_number w r n c) ≡ values_in c.args)
        (λ n c h. ap values_alone h ∙ named_alone n c.args) (first_free w r) calls
        (children_inputs nodes w.links (first_free w r) calls (λ q le. no_input_beyond w.nodes q w.links (omega arith) consistent.links.ends)
        (all_stored w (first_free w r) calls refl read) ascend)
