-- How many nodes what an advance comes to adds.
use Rattle.std.proofs.Common.{◌≡◌, ℕ, suc, ◌+◌, ◌≤◌, List, [], ◌∷◌, ◌++◌, length, map, refl, ap, ◌∙◌, arith}
use Rattle.std.proofs.lemmas.List.{length-append}
use Rattle.std.proofs.lemmas.List.Elements.{filter_map-append}
use Rattle.wc_value.specs.declared.process.ProcessState.{ProcessState}
use Rattle.wc_value.specs.declared.process.ProcessState.TheVariants as state
use Rattle.wc_graph.specs.declared.link.LinkType.{LinkType}
use Rattle.wc_state.specs.declared.record.Checkpoint.{Checkpoint}
use Rattle.wc_state.specs.declared.record.ProcessRecord.{ProcessRecord}
use Rattle.wc_world.specs.World.{World}
use Rattle.wc_world.specs.Applied.{applied}
use Rattle.wc_world.specs.After.{node_in, nodes_in}
use Rattle.wc_world.specs.declared.change.Change.{Change}
use Rattle.wc_outline.specs.declared.calls.Argument.TheVariants as argument
use Rattle.wc_outline.specs.declared.calls.Call.{Call}
use Rattle.wc_machine.specs.Refusals.{AreFew, FullOf, HasRoom, RefusesCounts}
use Rattle.wc_machine.specs.declared.error.TurnError.{TurnError}
use Rattle.wc_machine.proofs.Counted.{HasNoCount, no_count_both, nodes_more, one_batch}
use Rattle.wc_machine.proofs.Rooms.{has_room_for, full_for}
use Rattle.wc_changes.specs.declared.children.Caller.{Caller}
use Rattle.wc_changes.specs.Called.{Args, data_of, links_of, number_after, added, number_at, kind_at, child, link_to, one_call, all_calls}
use Rattle.wc_machine.specs.Submissions.{input_link}
use Rattle.wc_changes.specs.Advances.{Outs, return_link, returned, ending, submission}

nodes_both : (xs ys : List Change) → length (nodes_in (xs ++ ys)) ≡ length (nodes_in xs) + length (nodes_in ys)
nodes_both xs ys = ap length (filter_map-append node_in xs ys) ∙ length-append (nodes_in xs) (nodes_in ys)

-- ---- arguments

data_nodes : (args : Args) → length (nodes_in (data_of args)) ≡ length (data_of args)
data_nodes [] = refl
data_nodes ((port, argument.Node n) ∷ rest) = data_nodes rest
data_nodes ((port, argument.Plain v) ∷ rest) = ap suc (data_nodes rest)

data_count : (args : Args) → HasNoCount (data_of args)
data_count [] = tt
data_count ((port, argument.Node n) ∷ rest) = data_count rest
data_count ((port, argument.Plain v) ∷ rest) = data_count rest

links_nodes : (t : LinkType) (next pid : ℕ) (args : Args) → length (nodes_in (links_of t next pid args)) ≡ 0
links_nodes t next pid [] = refl
links_nodes t next pid (a ∷ rest) = links_nodes t (number_after next a.1) pid rest

links_count : (t : LinkType) (next pid : ℕ) (args : Args) → HasNoCount (links_of t next pid args)
links_count t next pid [] = tt
links_count t next pid (a ∷ rest) = links_count t (number_after next a.1) pid rest

-- ---- calls

-- there are at most as many calls as they add nodes
pub fewer_calls : (cs : List Call) → length cs ≤ added cs
fewer_calls [] = omega arith
fewer_calls (c ∷ cs) = let h : length cs ≤ added cs = fewer_calls cs in omega arith

module _ (x : Caller) where
  one_nodes : (next : ℕ) (c : Call) → length (nodes_in (one_call x next c)) ≡ suc (length (data_of c.args))
  one_nodes next c =
      let links = links_of (input_link (kind_at x c)) next (number_at next c) c.args in
      let d : length (nodes_in (data_of c.args)) ≡ length (data_of c.args) = data_nodes c.args in
      let l : length (nodes_in links) ≡ 0 = links_nodes (input_link (kind_at x c)) next (number_at next c) c.args in
      let tail : length (nodes_in (links ++ link_to x next c ∷ [])) ≡ length (nodes_in links) + 0 = nodes_both links (link_to x next c ∷ []) in
      let all : length (nodes_in (one_call x next c)) ≡ length (nodes_in (data_of c.args)) + suc (length (nodes_in (links ++ link_to x next c ∷ [])))
      = nodes_both (data_of c.args) (child x c ∷ (links ++ link_to x next c ∷ [])) in
      omega arith

  one_count : (next : ℕ) (c : Call) → HasNoCount (one_call x next c)
  one_count next c =
      let links = links_of (input_link (kind_at x c)) next (number_at next c) c.args in
      no_count_both (data_of c.args) (child x c ∷ (links ++ link_to x next c ∷ [])) (data_count c.args)
      (no_count_both links (link_to x next c ∷ []) (links_count (input_link (kind_at x c)) next (number_at next c) c.args) tt)

  all_nodes : (next : ℕ) (cs : List Call) → length (nodes_in (all_calls x next cs)) ≡ added cs
  all_nodes next [] = refl
  all_nodes next (c ∷ cs) =
      let later = all_calls x (suc (number_at next c)) cs in
      let one : length (nodes_in (one_call x next c)) ≡ suc (length (data_of c.args)) = one_nodes next c in
      let rest : length (nodes_in later) ≡ added cs = all_nodes (suc (number_at next c)) cs in
      nodes_both (one_call x next c) later ∙ (λ i. one i + rest i)

  all_count : (next : ℕ) (cs : List Call) → HasNoCount (all_calls x next cs)
  all_count next [] = tt
  all_count next (c ∷ cs) = no_count_both (one_call x next c) (all_calls x (suc (number_at next c)) cs) (one_count next c) (all_count (suc (number_at next c)) cs)

-- ---- ends

return_nodes : (pid : ℕ) (outputs : Outs) → length (nodes_in (map (return_link pid) outputs)) ≡ 0
return_nodes pid [] = refl
return_nodes pid (o ∷ os) = return_nodes pid os

return_count : (pid : ℕ) (outputs : Outs) → HasNoCount (map (return_link pid) outputs)
return_count pid [] = tt
return_count pid (o ∷ os) = return_count pid os

returned_nodes : (pid : ℕ) (s : ProcessState) (outputs : Outs) → length (nodes_in (returned pid s outputs)) ≡ 0
returned_nodes pid state.Created outputs = refl
returned_nodes pid state.Running outputs = refl
returned_nodes pid state.Waiting outputs = refl
returned_nodes pid (state.Finished n) outputs = return_nodes pid outputs
returned_nodes pid (state.Excepted e) outputs = refl
returned_nodes pid state.Killed outputs = refl

returned_count : (pid : ℕ) (s : ProcessState) (outputs : Outs) → HasNoCount (returned pid s outputs)
returned_count pid state.Created outputs = tt
returned_count pid state.Running outputs = tt
returned_count pid state.Waiting outputs = tt
returned_count pid (state.Finished n) outputs = return_count pid outputs
returned_count pid (state.Excepted e) outputs = tt
returned_count pid state.Killed outputs = tt

-- ---- room

-- changes add so many nodes, and none of them says how many batches there were
pub record Adds (cs : List Change) (more : ℕ) : Type 0 where
  pub nodes : length (nodes_in cs) ≡ more
  pub plain : HasNoCount cs

pub submission_adds : (x : Caller) (next : ℕ) (c : Checkpoint) (calls : List Call) → Adds (submission x next c calls) (added calls)
submission_adds x next c calls = record {
  nodes =
      let h : length (nodes_in (all_calls x next calls)) ≡ added calls = all_nodes x next calls in
      let both : length (nodes_in (submission x next c calls)) ≡ length (nodes_in (all_calls x next calls)) + 0 = nodes_both (all_calls x next calls) _ in
      omega arith;
  plain = no_count_both (all_calls x next calls) _ (all_count x next calls) tt;
}

pub ending_adds : (r : ProcessRecord) (missing : _) (s : ProcessState) (outputs : Outs) → Adds (ending r missing s outputs) 0
ending_adds r missing s outputs = record {
  nodes =
      let h : length (nodes_in (returned r.node s outputs)) ≡ 0 = returned_nodes r.node s outputs in
      let both : length (nodes_in (ending r missing s outputs)) ≡ length (nodes_in (returned r.node s outputs)) + 0 = nodes_both (returned r.node s outputs) _ in
      omega arith;
  plain = no_count_both (returned r.node s outputs) _ (returned_count r.node s outputs) tt;
}

module _ (w : World) (cs : List Change) (more most : ℕ) (h : Adds cs more) where
  nodes_after : length (applied w cs).nodes ≡ length w.nodes + more
  nodes_after = nodes_more w cs ∙ ap (λ (n : ℕ). length w.nodes + n) h.nodes

  batches_after : (applied w cs).batches ≡ w.batches + 1
  batches_after = one_batch w cs h.plain

  pub fits : AreFew (length w.nodes + more) (w.batches + 1) most → HasRoom most (applied w cs)
  fits few = has_room_for w cs more most nodes_after batches_after few

  pub full : (e : TurnError) → RefusesCounts (length w.nodes + more) (w.batches + 1) most e → FullOf (λ ds. ds ≡ cs) most w e
  full e refuses = full_for w cs more most nodes_after batches_after (λ ds. ds ≡ cs) refl e refuses
