-- A world accepts the changes with which a chain ends.
use Rattle.std.proofs.Common.{◌≡◌, ℕ, ◌+◌, ◌<◌, Bool, true, false, Option, Some, None, List, [], ◌∷◌, ◌++◌, length, get_or, refl, sym, ap, subst, ◌∙◌}
use Rattle.std.specs.Prelude.{All, IsSomeAnd, ◌==◌, ◌&&◌, ◌||◌, not}
use Rattle.std.specs.List.{AllByRecursion}
use Rattle.std.specs.List.Sorted.{IsStrictlySortedBy}
use Rattle.std.specs.Map.{keys_of}
use Rattle.std.specs.Ordering.{nat_cmp, is_eq}
use Rattle.std.specs.declared.cmp.Ordering.TheVariants.{Less}
use Rattle.std.specs.Cmp.Lexicographic.{slice_cmp}
use Rattle.std.proofs.lemmas.Bool.{eq-eqb}
use Rattle.std.proofs.lemmas.Slice.Eq.{bytes_eq-Decides}
use Rattle.std.proofs.lemmas.Map.Text.{is_eq-slice_cmp}
use Rattle.std.proofs.lemmas.List.{append_assoc, append-nil}
use Rattle.std.proofs.lemmas.List.Elements.{All-push, All-weaker, All-head, All-tail}
use Rattle.wc_value.specs.Ascending.{Ascends}
use Rattle.wc_value.specs.declared.process.ProcessState.{ProcessState}
use Rattle.wc_graph.specs.Rules.{node_of, IsData, IsWorkflow}
use Rattle.wc_graph.specs.Refusals.{IsAllowed}
use Rattle.wc_graph.specs.declared.link.Link.{Link}
use Rattle.wc_graph.specs.declared.link.LinkType.TheVariants as link
use Rattle.wc_graph.specs.declared.node.NodeKind.{NodeKind}
use Rattle.wc_state.specs.declared.record.Part.TheVariants as part
use Rattle.wc_state.specs.declared.record.ProcessKind.{ProcessKind}
use Rattle.wc_state.specs.declared.record.ProcessKind.TheVariants as kind
use Rattle.wc_state.specs.declared.record.ProcessRecord.{ProcessRecord}
use Rattle.wc_semantics.specs.Tables.{Label}
use Rattle.wc_world.specs.declared.change.Change.{Change}
use Rattle.wc_world.specs.World.{World}
use Rattle.wc_world.specs.Accepted.{Setting, Apply, IsAccepted, setting}
use Rattle.wc_world.specs.Applied.{begun, set}
use Rattle.wc_world.specs.Consistent.{IsConsistent, Stands}
use Rattle.wc_world.specs.Fits.{calls_from, counted_calls, has_output, is_settled, part_fits, unsettled}
use Rattle.wc_world.specs.Records.{find_record, gives_output, has_ended, is_output_of, process_node}
use Rattle.wc_world.proofs.FoundRecords.{found_holds}
use Rattle.wc_world.proofs.ReachedLists.{all_at_apart}
use Rattle.wc_machine.specs.Calls.{chain_set, returns}
use Rattle.wc_machine.proofs.AcceptedEnds.{live_without_output, over_fits, process_is_node, settled_all}
use Rattle.wc_machine.proofs.CreatedOutputs.{without_output}
use Rattle.wc_machine.proofs.Frames.{calls_before, no_call_from, output_before}
use Rattle.wc_soundness.specs.Replaced.{set_to}
use Rattle.wc_soundness.proofs.Returns.{applied_ending, ended_to, ending, return_link, return_links, returns_no_call, returns_no_output, with_returns}

-- ---- a link that returns an output

less_itself : (a : List ℕ) → slice_cmp nat_cmp a a ≡ Less → ⊥
less_itself a h =
    let equal : is_eq (slice_cmp nat_cmp a a) ≡ true = is_eq-slice_cmp a a ∙ (bytes_eq-Decides a a).1 refl in
    let differs : is_eq (slice_cmp nat_cmp a a) ≡ false = ap is_eq h in
    cc (equal, differs)

-- the labels come after this one
abbrev ComeAfter : List (Label × ℕ) → Label → Type 0
ComeAfter os label = AllByRecursion (λ k. slice_cmp nat_cmp label k ≡ Less) (keys_of os)

-- a link that returns an output of the process has a label that comes before these
abbrev Precedes : ℕ → List (Label × ℕ) → Link → Type 0
Precedes pid os a = a.link ≡ link.Return → a.source ≡ pid → ComeAfter os a.label

abbrev pub IsDataNode : List NodeKind → Label × ℕ → Type 0
IsDataNode nodes o = IsSomeAnd (node_of nodes o.1) IsData

-- nothing is in the way of these outputs
record CanReturn (v : World) (pid : ℕ) (os : List (Label × ℕ)) : Type 0 where
  source : IsSomeAnd (node_of v.nodes pid) IsWorkflow
  targets : All (IsDataNode v.nodes) os
  labels : All (Precedes pid os) v.links

-- what holds of each link holds of one at its place
at_place : (P : Link → Type 0) (links : List Link) → All P links → (i : ℕ) (a : Link) → i < length links → get_or links i a ≡ a → P a
at_place P links all i a lt is = subst P is (all i a lt)

no_create : link.Return ≡ link.Create → ⊥
no_create e = cc e

return_allowed : (v : World) (pid : ℕ) (o : Label × ℕ) (os : List (Label × ℕ)) → CanReturn v pid (o ∷ os) → IsAllowed v.nodes v.links (return_link pid o)
return_allowed v pid o os can = record {
  ends = (can.source, All-head (IsDataNode v.nodes) o os can.targets);
  triple = λ h.
      let a = h.1 in
      let after : ComeAfter (o ∷ os) a.label = at_place (Precedes pid (o ∷ os)) v.links can.labels h.0 a h.2 h.3 h.4.0 h.4.1 in
      less_itself o.0 (subst (λ (label : List ℕ). slice_cmp nat_cmp label o.0 ≡ Less) h.4.3 after.0);
  label = λ h.
      let a = h.1 in
      let after : ComeAfter (o ∷ os) a.label = at_place (Precedes pid (o ∷ os)) v.links can.labels h.0 a h.2 h.3 h.4.0 h.4.1 in
      less_itself o.0 (subst (λ (label : List ℕ). slice_cmp nat_cmp label o.0 ≡ Less) h.4.2 after.0);
  creator = λ h. no_create h.4.1;
  caller = λ h. h.4.1;
}

returns_on : (v : World) (pid : ℕ) (o : Label × ℕ) (os : List (Label × ℕ)) → Ascends (o ∷ os) → CanReturn v pid (o ∷ os) → CanReturn (with_returns v pid (o ∷ [])) pid os
unfolding IsStrictlySortedBy
returns_on v pid o os ascend can = record {
  source = can.source;
  targets = All-tail (IsDataNode v.nodes) o os can.targets;
  labels = All-push (Precedes pid os) v.links (return_link pid o)
      (All-weaker (Precedes pid (o ∷ os)) (Precedes pid os) (λ a h is from. (h is from).1) v.links can.labels)
      (λ is from. ascend.0);
}

fewer : (o : Label × ℕ) (os : List (Label × ℕ)) → Ascends (o ∷ os) → Ascends os
unfolding IsStrictlySortedBy
fewer o os ascend = ascend.1

apply_returned : (s : Setting) (w v : World) (r : ProcessRecord) (os : List (Label × ℕ)) (rest : List Change) → Ascends os → CanReturn v r.node os
    → Apply s (with_returns v r.node os) rest → Apply s v (returns w r os ++ rest)
apply_returned s w v r [] rest ascend can h =
    subst (λ (x : World). Apply s x rest)
    (λ i. record { nodes = v.nodes; links = append-nil v.links i; records = v.records; libraries = v.libraries; batches = v.batches }) h
apply_returned s w v r (o ∷ os) rest ascend can h =
    let u = with_returns v r.node (o ∷ []) in
    let same : with_returns u r.node os ≡ with_returns v r.node (o ∷ os) =
    λ i. record {
      nodes = v.nodes;
      links = append_assoc v.links (return_link r.node o ∷ []) (return_links r.node os) i;
      records = v.records;
      libraries = v.libraries;
      batches = v.batches;
    } in (
      (return_allowed v r.node o os can, λ call. absurd call),
      apply_returned s w u r os rest (fewer o os ascend) (returns_on v r.node o os ascend can) (subst (λ (x : World). Apply s x rest) (sym same) h),
    )

workflow_by : (o : Option NodeKind) (k : ProcessKind) → o ≡ Some (process_node k) → k ≡ kind.Chain → IsSomeAnd o IsWorkflow
workflow_by o kind.Function h e = absurd (cc e)
workflow_by o kind.Job h e = absurd (cc e)
workflow_by o kind.Chain h e = subst (λ (o : Option NodeKind). IsSomeAnd o IsWorkflow) (sym h) tt

-- ---- the end

module _ (w : World) (r : ProcessRecord) (s : ProcessState) (os : List (Label × ℕ)) where
  settled_after : IsConsistent w → has_ended s ≡ true → unsettled (ended_to w r s os).links (ended_to w r s os).records ≡ None
  settled_after c over =
      let new = return_links r.node os in
      settled_all (w.links ++ new) (ended_to w r s os).records
      (all_at_apart (λ x. is_settled (w.links ++ new) x ≡ true) r.node (set (w.batches + 1) (set_to r s r.fuel part.Over)) w.records
      (λ i d lt ne.
      let q = get_or w.records i d in
      let outputs = output_before q.node w.links new (returns_no_output q.node r.node os (λ e. ne (sym e))) in
      let called = calls_before q.node w.links new (no_call_from q.node new (returns_no_call r.node os)) in
      (λ j. has_ended q.state || (not (outputs j) && (called j == counted_calls q.part))) ∙ (c.records i d lt).settled)
      (λ i d lt e.
      let q = get_or w.records i d in
      ap (λ (b : Bool). b || (not (has_output q.node (w.links ++ new)) && (calls_from q.node (w.links ++ new) == 0))) over))

  can_return : IsConsistent w → find_record r.node w.records ≡ Some r → r.kind ≡ kind.Chain → has_ended r.state ≡ false → All (IsDataNode w.nodes) os
      → CanReturn (begun w) r.node os
  can_return c found is_chain live nodes = record {
    source = workflow_by (node_of w.nodes r.node) r.kind (process_is_node w c r found) is_chain;
    targets = nodes;
    labels = λ i d lt is from. absurd (no_return i d lt is from);
  }
    where
      no_return : (i : ℕ) (d : Link) → i < length w.links → (get_or w.links i d).link ≡ link.Return → (get_or w.links i d).source ≡ r.node → ⊥
      no_return i d lt is from =
          let l = get_or w.links i d in
          let stands : Stands w r = found_holds (Stands w) r.node w.records r c.records found in
          let none : is_output_of r.node l ≡ false = without_output r.node w.links (live_without_output w r stands live) i d lt in
          let is_one : is_output_of r.node l ≡ true = (λ j. gives_output (is j) && (from j == r.node)) ∙ eq-eqb r.node r.node refl in
          cc (none, is_one)

  -- A world accepts the changes with which a live chain ends, where its outputs are data and there is room for a batch.
  pub ending_accepted : IsConsistent w → find_record r.node w.records ≡ Some r → r.kind ≡ kind.Chain → has_ended r.state ≡ false → has_ended s ≡ true → Ascends os
      → All (IsDataNode w.nodes) os → w.batches < 4000000000 → IsAccepted w (ending w r s os)
  ending_accepted c found is_chain live over ascend nodes room =
      let set_is : (not (has_ended r.state) && (part_fits r.kind s part.Over && true)) ≡ true = λ i. not (live i) && (over_fits r.kind s over i && true) in
      record {
        batch = room;
        each =
            apply_returned (setting w (ending w r s os)) w (begun w) r os (chain_set w r s r.fuel part.Over ∷ []) ascend (can_return c found is_chain live nodes)
            ((r, found, set_is, refl), tt);
        settled = ap (λ (v : World). unsettled v.links v.records) (applied_ending w r s os) ∙ settled_after c over;
      }
