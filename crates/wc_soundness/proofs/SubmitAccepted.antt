-- The changes of calls apply one after another.
use Rattle.std.proofs.Common.{◌≡◌, ℕ, suc, ◌+◌, ◌<◌, ◌≤◌, true, false, Option, Some, None, List, [], ◌∷◌, ◌++◌, length, refl, sym, ap, subst, ◌∙◌, arith, add-one}
use Rattle.std.specs.Prelude.{◌==◌, All, Any, IsSomeAnd, nat_le, option_and_then, slice_get}
use Rattle.std.specs.Cmp.Lexicographic.{slice_cmp}
use Rattle.std.specs.List.Sorted.{IsStrictlySortedBy}
use Rattle.std.specs.Map.{keys_of}
use Rattle.std.specs.Ordering.{nat_cmp}
use Rattle.std.specs.Str.{bytes_eq}
use Rattle.std.proofs.lemmas.Bool.{and_from, cond-true, eq-eqb, le-leb}
use Rattle.std.proofs.lemmas.List.{append_assoc, length-append}
use Rattle.std.proofs.lemmas.List.Elements.{All-head, All-tail, All-append, All-weaker}
use Rattle.std.proofs.lemmas.Slice.Eq.{bytes_eq-Decides}
use Rattle.wc_value.specs.Ascending.{Ascends}
use Rattle.wc_value.specs.declared.value.Value.{Value}
use Rattle.wc_syntax.specs.declared.definition.Definition.{Definition}
use Rattle.wc_graph.specs.Refusals.{IsAllowed}
use Rattle.wc_graph.specs.Rules.{Enters, HasRightEnds, IsCall, Leaves, SharesCalled, SharesCreated, TakesLabel, TakesTriple, node_of}
use Rattle.wc_graph.specs.declared.link.Link.{Link}
use Rattle.wc_graph.specs.declared.link.LinkType.{LinkType}
use Rattle.wc_graph.specs.declared.link.LinkType.TheVariants as link
use Rattle.wc_graph.specs.declared.node.NodeKind.{NodeKind}
use Rattle.wc_graph.specs.declared.node.NodeKind.TheVariants as made_of
use Rattle.wc_state.specs.declared.record.ProcessKind.{ProcessKind}
use Rattle.wc_state.specs.declared.record.ProcessKind.TheVariants as kind
use Rattle.wc_state.specs.declared.record.ProcessRecord.{ProcessRecord}
use Rattle.wc_world.specs.Accepted.{Apply, Setting}
use Rattle.wc_world.specs.Applied.{after_change, begun}
use Rattle.wc_world.specs.Consistent.{IsConsistent}
use Rattle.wc_world.specs.Fits.{call_fits, is_called_by, is_call_between, is_of_kind, new_fits}
use Rattle.wc_world.specs.Records.{calls, definition_in, find_record, kind_of_definition, process_node, same_kind}
use Rattle.wc_world.specs.Trees.{data_of}
use Rattle.wc_world.specs.World.{World, Known}
use Rattle.wc_world.specs.declared.change.Change.{Change}
use Rattle.wc_world.specs.declared.change.Change.TheVariants as change
use Rattle.wc_world.proofs.ReachedLists.{find_grown, node_grown}
use Rattle.wc_machine.specs.Calls.{Arguments, argument_links, call_changes, call_link, called_number, calls_changes, kind_named, kind_of_callee, plain_data}
use Rattle.wc_machine.specs.Steps.{node, plain, Call, values_in}
use Rattle.wc_machine.specs.Submissions.{input_link}
use Rattle.wc_machine.proofs.Frames.{target_is_node, node_number}
use Rattle.wc_machine.proofs.Submitted.{at_length, with_nodes, with_links}
use Rattle.wc_machine.proofs.SubmittedAccepted.{apply_append}
use Rattle.wc_machine.proofs.SubmittedLinks.{AreDistinct, LacksLabels, calls_nothing, distinct, input_allowed, labels_left}
use Rattle.wc_turn_laws.specs.Nodes.{InCall}
use Rattle.wc_soundness.proofs.SeenWorlds.{IsRead}
use Rattle.wc_soundness.specs.Standing.{AreLowIn, IsLowArgument}
use Rattle.wc_soundness.specs.Submitted.{call_links, call_nodes, calls_nodes, child_of, child_record, data_nodes, first_free, input_links, its_call_link}
use Rattle.wc_soundness.proofs.Inputs.{AreStored, are_stored, read_grown}
use Rattle.wc_soundness.proofs.Links.{call_all, call_calls, input_calls, inputs_all}
use Rattle.wc_soundness.proofs.Records.{IsFree, found_behind, free_after}
use Rattle.wc_soundness.proofs.Worlds.{child_added, child_number, data_added, data_count, links_added, number_after, call_added, with_call, with_calls, with_child}

-- ---- data

pub is_data : (o : Option NodeKind) (v : Value) → option_and_then data_of o ≡ Some v → o ≡ Some (made_of.Data v)
is_data None v h = absurd (cc)
is_data (Some (made_of.Data x)) v h = let same : x ≡ v = cc in ap (λ (y : Value). Some (made_of.Data y)) same
is_data (Some made_of.Calculation) v h = absurd (cc)
is_data (Some made_of.Workflow) v h = absurd (cc)

data_applies : (s : Setting) (u : World) (args : Arguments) → length u.nodes + length (plain_data args) ≤ 8000000 → All (λ a. IsLowArgument a.1) args → Apply s u (plain_data args)
data_applies s u [] few low = tt
data_applies s u ((port, node n) ∷ rest) few low = data_applies s u rest few (All-tail (λ a. IsLowArgument a.1) (port, node n) rest low)
data_applies s u ((port, plain v) ∷ rest) few low = (
  (omega arith, All-head (λ a. IsLowArgument a.1) (port, plain v) rest low),
  data_applies s (after_change s.batch u (change.Data v)) rest (omega (arith, length-append u.nodes (made_of.Data v ∷ [])))
      (All-tail (λ a. IsLowArgument a.1) (port, plain v) rest low),
)

-- ---- input links

same_keys : (args : Arguments) → keys_of (values_in args) ≡ keys_of args
same_keys [] = refl
same_keys (a ∷ rest) = ap (λ (l : List (List ℕ)). a.0 ∷ l) (same_keys rest)

values_ascend : (args : Arguments) → Ascends args → Ascends (values_in args)
values_ascend args h = subst (λ (ks : List (List ℕ)). IsStrictlySortedBy (slice_cmp nat_cmp) ks) (sym (same_keys args)) h

inputs_apply : (k : ProcessKind) (s : Setting) (u : World) (next pid : ℕ) (args : Arguments) → AreStored u.nodes next args → node_of u.nodes pid ≡ Some (process_node k)
    → AreDistinct (values_in args) → All (LacksLabels pid (values_in args)) u.links → Apply s u (argument_links (input_link k) next pid args)
inputs_apply k s u next pid [] stored process differ free = tt
inputs_apply k s u next pid ((port, node n) ∷ rest) stored process differ free =
    let l : Link = record { source = n.node; target = pid; link = input_link k; label = port } in
    let i : List ℕ × Value = (port, n.value) in (
      (input_allowed k u.nodes u.links n.node pid i (values_in rest) (is_data (node_of u.nodes n.node) n.value stored.0) process free, λ c. absurd (calls_nothing k c)),
      inputs_apply k s (after_change s.batch u (change.Link l)) next pid rest stored.1 process differ.1 (labels_left u.links l pid i (values_in rest) refl differ.0 free),
    )
inputs_apply k s u next pid ((port, plain v) ∷ rest) stored process differ free =
    let l : Link = record { source = next; target = pid; link = input_link k; label = port } in
    let i : List ℕ × Value = (port, v) in (
      (input_allowed k u.nodes u.links next pid i (values_in rest) (is_data (node_of u.nodes next) v stored.0) process free, λ c. absurd (calls_nothing k c)),
      inputs_apply k s (after_change s.batch u (change.Link l)) (suc next) pid rest stored.1 process differ.1 (labels_left u.links l pid i (values_in rest) refl differ.0 free),
    )

-- ---- the call link

leaves_chain : (k : ProcessKind) → Leaves (call_link k) made_of.Workflow
leaves_chain kind.Function = tt
leaves_chain kind.Job = tt
leaves_chain kind.Chain = tt

enters_callee : (k : ProcessKind) → Enters (call_link k) (process_node k)
enters_callee kind.Function = tt
enters_callee kind.Job = tt
enters_callee kind.Chain = tt

no_label : (k : ProcessKind) (a b : Link) → TakesLabel (call_link k) a b → ⊥
no_label kind.Function a b h = h
no_label kind.Job a b h = h
no_label kind.Chain a b h = h

same_triple : (k : ProcessKind) (a b : Link) → TakesTriple (call_link k) a b → (a.link ≡ b.link) × (a.target ≡ b.target)
same_triple kind.Function a b h = (h.0, h.2)
same_triple kind.Job a b h = (h.0, h.2)
same_triple kind.Chain a b h = (h.0, h.2)

creates_nothing : (k : ProcessKind) → call_link k ≡ link.Create → ⊥
creates_nothing kind.Function h = cc
creates_nothing kind.Job h = cc
creates_nothing kind.Chain h = cc

is_call : (t : LinkType) → IsCall t → calls t ≡ true
is_call link.InputCalc h = absurd h
is_call link.InputWork h = absurd h
is_call link.Create h = absurd h
is_call link.Return h = absurd h
is_call link.CallCalc h = refl
is_call link.CallWork h = refl

any_none : {X : Type 0} (P Q : X → Type 0) (xs : List X) → All Q xs → ((x : X) → Q x → P x → ⊥) → Any P xs → ⊥
any_none P Q xs all apart h = apart h.1 (subst Q h.3 (all h.0 h.1 h.2)) h.4

some_is : (P : NodeKind → Type 0) (o : Option NodeKind) (n : NodeKind) → o ≡ Some n → P n → IsSomeAnd o P
some_is P o n e h = subst (λ (x : Option NodeKind). IsSomeAnd x P) (sym e) h

-- no call leads to the process
abbrev CallsOther : ℕ → Link → Type 0
CallsOther pid a = a.target ≡ pid → calls a.link ≡ false

call_allowed : (k : ProcessKind) (nodes : List NodeKind) (links : List Link) (source pid : ℕ) (name : List ℕ) → node_of nodes source ≡ Some made_of.Workflow
    → node_of nodes pid ≡ Some (process_node k) → All (CallsOther pid) links
    → IsAllowed nodes links (record { source = source; target = pid; link = call_link k; label = name })
call_allowed k nodes links source pid name from to free =
    let l : Link = record { source = source; target = pid; link = call_link k; label = name } in
    record {
      ends = (
        some_is (Leaves (call_link k)) (node_of nodes source) made_of.Workflow from (leaves_chain k),
        some_is (Enters (call_link k)) (node_of nodes pid) (process_node k) to (enters_callee k),
      );
      triple = any_none (λ a. TakesTriple (call_link k) a l) (CallsOther pid) links free (λ a other h.
          let t = same_triple k a l h in
          let none : calls a.link ≡ false = other t.1 in
          let one : calls a.link ≡ true = ap calls t.0 ∙ call_calls k in
          absurd (cc (none, one)));
      label = any_none (λ a. TakesLabel (call_link k) a l) (CallsOther pid) links free (λ a other h. no_label k a l h);
      creator = any_none (λ a. SharesCreated a l) (CallsOther pid) links free (λ a other h. creates_nothing k h.1);
      caller = any_none (λ a. SharesCalled a l) (CallsOther pid) links free (λ a other h.
          let none : calls a.link ≡ false = other h.2 in
          let one : calls a.link ≡ true = is_call a.link h.0 in
          absurd (cc (none, one)));
    }

same_kinds : (k : ProcessKind) → same_kind k k ≡ true
same_kinds kind.Function = refl
same_kinds kind.Job = refl
same_kinds kind.Chain = refl

same_bytes : (a : List ℕ) → bytes_eq a a ≡ true
same_bytes a = (bytes_eq-Decides a a).1 refl

-- what a called process must fit
pub record MayCall (w : World) (r : ProcessRecord) (c : Call) : Type 0 where
  pub level : r.depth < 16
  pub definition : Definition
  pub is_there : definition_in w.libraries r.library c.definition ≡ Some definition
  pub ascend : Ascends c.args
  pub low : AreLowIn c

module _ (w : World) (r : ProcessRecord) where
  -- a world on its way, with calls up to a number
  pub record IsReady (u : World) (next : ℕ) : Type 0 where
    pub number : next ≡ length u.nodes + 1
    pub libraries : u.libraries ≡ w.libraries
    pub chain : find_record r.node u.records ≡ Some r
    pub workflow : node_of u.nodes r.node ≡ Some made_of.Workflow
    pub links : All (λ l. l.target < next) u.links
    pub free : IsFree w r next u.records

  pub ready_first : IsConsistent w → find_record r.node w.records ≡ Some r → node_of w.nodes r.node ≡ Some made_of.Workflow → IsFree w r (first_free w r) w.records
      → IsReady (begun w) (first_free w r)
  ready_first consistent found workflow free = record {
    number = refl;
    libraries = refl;
    chain = found;
    workflow = workflow;
    links =
        All-weaker (HasRightEnds w.nodes) (λ l. l.target < length w.nodes + 1)
        (λ l h. let le : l.target ≤ length w.nodes = node_number w.nodes l.target (target_is_node w.nodes l h) in omega arith) w.links consistent.links.ends;
    free = free;
  }

  ready_after : (u : World) (next : ℕ) (c : Call) → IsReady u next → IsReady (with_call w r u next c) (suc (called_number w r next c))
  ready_after u next c h =
      let number : ℕ = called_number w r next c in record {
        number = number_after w r u next c h.number;
        libraries = h.libraries;
        chain = find_grown r.node u.records (child_record w r next c ∷ []) r h.chain;
        workflow = node_grown u.nodes (call_nodes w r c) r.node made_of.Workflow h.workflow;
        links =
            All-append (λ l. l.target < suc number) u.links (call_links w r next c)
            (All-weaker (λ l. l.target < next) (λ l. l.target < suc number) (λ l lt. omega arith) u.links h.links)
            (call_all w r (λ l. l.target < suc number) next c
            (inputs_all (λ l. l.target < suc number) (input_link (kind_of_callee w r c)) next number c.args (λ source port. omega arith)) (omega arith));
        free = free_after w r next c u.records h.free;
      }

  module _ (s : Setting) (u : World) (next : ℕ) (c : Call) (ready : IsReady u next) (may : MayCall w r c) (read : InCall (IsRead u.nodes) c)
      (room : length (with_call w r u next c).nodes ≤ 8000000) where
    abbrev k : ProcessKind
    k = kind_of_callee w r c

    abbrev number : ℕ
    number = called_number w r next c

    kind_is : k ≡ kind_of_definition may.definition
    kind_is = ap kind_named may.is_there

    process_fits : new_fits u.libraries (child_of w r c) ≡ true
    process_fits =
        let level : r.depth < 16 = may.level in
        and_from (nat_le 1 (suc r.depth)) _ (le-leb 1 (suc r.depth) (omega arith))
        (and_from (nat_le (suc r.depth) 16) _ (le-leb (suc r.depth) 16 (omega arith))
        (ap (λ (ls : List Known). is_of_kind k (definition_in ls r.library c.definition)) ready.libraries
        ∙ ap (is_of_kind k) may.is_there ∙ ap (same_kind (kind_of_definition may.definition)) kind_is ∙ same_kinds (kind_of_definition may.definition)))

    process_is : node_of (with_child w r u next c).nodes number ≡ Some (process_node k)
    process_is =
        let place : number ≡ suc (length (u.nodes ++ data_nodes c.args)) = sym (child_number w r u next c ready.number) ∙ add-one (length (u.nodes ++ data_nodes c.args)) in
        ap (node_of (with_child w r u next c).nodes) place
        ∙ ap (λ (ns : List NodeKind). slice_get ns (length (u.nodes ++ data_nodes c.args))) (sym (append_assoc u.nodes (data_nodes c.args) (process_node k ∷ [])))
        ∙ at_length (u.nodes ++ data_nodes c.args) (process_node k) []

    stored : AreStored (with_child w r u next c).nodes next c.args
    stored = are_stored u.nodes c.args (process_node k ∷ []) next (ready.number ∙ add-one (length u.nodes)) read

    labels_free : All (LacksLabels number (values_in c.args)) u.links
    labels_free =
        All-weaker (λ l. l.target < next) (LacksLabels number (values_in c.args)) (λ l lt e. let same : l.target ≡ number = e in absurd (omega arith)) u.links ready.links

    calls_other : All (CallsOther number) (u.links ++ input_links (input_link k) next number c.args)
    calls_other =
        All-append (CallsOther number) u.links (input_links (input_link k) next number c.args)
        (All-weaker (λ l. l.target < next) (CallsOther number) (λ l lt e. let same : l.target ≡ number = e in absurd (omega arith)) u.links ready.links)
        (inputs_all (CallsOther number) (input_link k) next number c.args (λ source port e. input_calls k))

    -- the called process is found
    child_there : find_record number (with_child w r u next c).records ≡ Some (child_record w r next c)
    child_there = found_last u.records (ready.free number (omega arith))
      where
        found_last : (rs : List ProcessRecord) → find_record number rs ≡ None → find_record number (rs ++ child_record w r next c ∷ []) ≡ Some (child_record w r next c)
        found_last rs h =
            found_behind w r number rs (child_record w r next c ∷ []) h
            ∙ cond-true (number == number) (Some (child_record w r next c)) None (eq-eqb number number refl)

    call_is_fit : call_fits (with_child w r u next c).records (its_call_link w r next c) ≡ true
    call_is_fit =
        ap (λ (o : Option ProcessRecord). is_call_between c.label o (find_record number (with_child w r u next c).records))
        (find_grown r.node u.records (child_record w r next c ∷ []) r ready.chain)
        ∙ ap (is_called_by c.label r) child_there
        ∙ and_from (suc r.depth == suc r.depth) (bytes_eq c.label c.label) (eq-eqb (suc r.depth) (suc r.depth) refl) (same_bytes c.label)

    pub call_applies : Apply s u (call_changes w r next c)
    call_applies =
        let type : LinkType = input_link k in
        let changes : List Change = argument_links type next number c.args in
        let last : List Change = change.Link (its_call_link w r next c) ∷ [] in
        let u2 : World = with_child w r u next c in
        let count : length (data_nodes c.args) ≡ length (plain_data c.args) = data_count c.args in
        let long : length (u.nodes ++ call_nodes w r c) ≡ length u.nodes + length (call_nodes w r c) = length-append u.nodes (call_nodes w r c) in
        let own : length (call_nodes w r c) ≡ length (data_nodes c.args) + 1 = length-append (data_nodes c.args) (process_node k ∷ []) in
        let behind : length (u.nodes ++ data_nodes c.args) ≡ length u.nodes + length (data_nodes c.args) = length-append u.nodes (data_nodes c.args) in
        let at_end : Apply s (with_links u2 (input_links type next number c.args)) last
        = (
          (
            call_allowed k u2.nodes (u.links ++ input_links type next number c.args) r.node number c.label
                (node_grown u.nodes (call_nodes w r c) r.node made_of.Workflow ready.workflow) process_is calls_other,
            λ call. call_is_fit,
          ),
          tt,
        ) in
        let at_links : Apply s u2 (changes ++ last)
        = apply_append s u2 changes last
        (inputs_apply k s u2 next number c.args stored process_is (distinct (values_in c.args) (values_ascend c.args may.ascend)) labels_free)
        (subst (λ (x : World). Apply s x last) (sym (links_added s.batch u2 type next number c.args)) at_end) in
        let at_process : Apply s (with_nodes u (data_nodes c.args)) (change.Process (child_of w r c) ∷ (changes ++ last))
        = ((omega (arith, room), process_fits), subst (λ (x : World). Apply s x (changes ++ last)) (sym (child_added w r s.batch u next c ready.number)) at_links) in
        apply_append s u (plain_data c.args) (change.Process (child_of w r c) ∷ (changes ++ last))
        (data_applies s u c.args (omega (arith, room)) may.low)
        (subst (λ (x : World). Apply s x (change.Process (child_of w r c) ∷ (changes ++ last))) (sym (data_added s.batch u c.args)) at_process)

  -- All calls apply, where there is room for their nodes.
  pub calls_apply : (s : Setting) (u : World) (next : ℕ) (cs : List Call) → IsReady u next → All (MayCall w r) cs → All (InCall (IsRead u.nodes)) cs
      → length (with_calls w r u next cs).nodes ≤ 8000000 → Apply s u (calls_changes w r next cs)
  calls_apply s u next [] ready may read room = tt
  calls_apply s u next (c ∷ cs) ready may read room =
      let further : ℕ = suc (called_number w r next c) in
      let u2 : World = with_call w r u next c in
      let more : length (u2.nodes ++ calls_nodes w r cs) ≤ 8000000
      = subst (λ (ns : List NodeKind). length ns ≤ 8000000) (sym (append_assoc u.nodes (call_nodes w r c) (calls_nodes w r cs))) room in
      let long : length (u2.nodes ++ calls_nodes w r cs) ≡ length u2.nodes + length (calls_nodes w r cs) = length-append u2.nodes (calls_nodes w r cs) in
      let reads : All (InCall (IsRead u2.nodes)) cs
      = All-weaker (InCall (IsRead u.nodes)) (InCall (IsRead u2.nodes)) (λ x. read_grown u.nodes (call_nodes w r c) x.args) cs (All-tail (InCall (IsRead u.nodes)) c cs read) in
      apply_append s u (call_changes w r next c) (calls_changes w r further cs)
      (call_applies s u next c ready (All-head (MayCall w r) c cs may) (All-head (InCall (IsRead u.nodes)) c cs read) (omega (arith, more, long)))
      (subst (λ (x : World). Apply s x (calls_changes w r further cs)) (sym (call_added w r s.batch u next c ready.number))
      (calls_apply s u2 further cs (ready_after u next c ready) (All-tail (MayCall w r) c cs may) reads more))
