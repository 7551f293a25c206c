-- What a part and the whole record of one process.
use Rattle.std.proofs.Common.{◌≡◌, ℕ, zero, suc, true, List, map, refl, sym, ap, ◌∙◌}
use Rattle.std.specs.Prelude.{option_map, option_and_then}
use Rattle.std.proofs.lemmas.List.Elements.{All-weaker}
use Rattle.wc_value.specs.declared.process.Tree.{roll-Tree}
use Rattle.wc_syntax.specs.Findings.{definition_named}
use Rattle.wc_state.specs.declared.record.ProcessRecord.{ProcessRecord}
use Rattle.wc_world.specs.World.{World}
use Rattle.wc_world.specs.Consistent.{IsConsistent}
use Rattle.wc_world.specs.Records.{is_call_from}
use Rattle.wc_world.specs.Trees.{Branch, branches, tree_with, tree_within}
use Rattle.wc_machine.specs.Paths.{call_links}
use Rattle.wc_machine.specs.Recorded.{its_definition, recorded_inputs, recorded_outputs, recorded_request, request_by}
use Rattle.wc_subworlds.specs.Parts.{IsPart, IsSameProcess, placed}
use Rattle.wc_subworlds.proofs.Links.{branches_along, calls_along, inputs_along, outputs_along}
use Rattle.wc_subworlds.proofs.Parts.{IsProcess, its_calls_there, stands}

module _ (u w : World) where
  pub definition_same : (r s : ProcessRecord) → IsSameProcess u w r s → its_definition w s ≡ its_definition u r
  definition_same r s same = λ i. option_and_then (definition_named (same.definition i)) (same.library i)

module _ (u : World) (consistent : IsConsistent u) (place : ℕ → ℕ) (w : World) (part : IsPart place u w) where
  pub inputs_placed : (pid : ℕ) → IsProcess u pid → recorded_inputs w (place pid) ≡ recorded_inputs u pid
  inputs_placed pid p =
      sym (inputs_along place part.rises pid u.links w.links u.nodes w.nodes part.nodes consistent.links.ends (stands u consistent place w part pid p).entering)

  pub outputs_placed : (pid : ℕ) → IsProcess u pid → recorded_outputs w (place pid) ≡ recorded_outputs u pid
  outputs_placed pid p =
      sym (outputs_along place part.rises pid u.links w.links u.nodes w.nodes part.nodes consistent.links.ends (stands u consistent place w part pid p).leaving)

  pub calls_placed : (pid : ℕ) → IsProcess u pid → call_links w (place pid) ≡ map (placed place) (call_links u pid)
  calls_placed pid p = calls_along place part.rises pid u.links w.links (stands u consistent place w part pid p).leaving

  pub request_placed : (r s : ProcessRecord) → IsSameProcess u w r s → IsProcess u r.node → s.node ≡ place r.node → recorded_request w s ≡ recorded_request u r
  request_placed r s same p number =
      let inputs : recorded_inputs w s.node ≡ recorded_inputs u r.node = ap (recorded_inputs w) number ∙ inputs_placed r.node p in
      λ i. request_by (definition_same u w r s same i) (inputs i)

  -- ---- trees

  tree_made : (pid levels : ℕ) (r s : ProcessRecord) → IsSameProcess u w r s → recorded_outputs w (place pid) ≡ recorded_outputs u pid
      → branches (tree_within levels w) (place pid) w.links ≡ branches (tree_within levels u) pid u.links
      → option_map (tree_with s (recorded_outputs w (place pid))) (branches (tree_within levels w) (place pid) w.links)
      ≡ option_map (tree_with r (recorded_outputs u pid)) (branches (tree_within levels u) pid u.links)
  tree_made pid levels r s same outputs calls =
      let made : (λ (bs : List Branch). tree_with s (recorded_outputs w (place pid)) bs) ≡ (λ bs. tree_with r (recorded_outputs u pid) bs) =
      λ i bs. roll-Tree (record { definition = same.definition i; state = same.state i; outputs = outputs i; calls = bs }) in
      λ i. option_map (made i) (calls i)

  pub tree_placed : (levels pid : ℕ) → IsProcess u pid → tree_within levels w (place pid) ≡ tree_within levels u pid
  tree_placed zero pid p = refl
  tree_placed (suc levels) pid p =
      let s = stands u consistent place w part pid p in
      let calls : branches (tree_within levels w) (place pid) w.links ≡ branches (tree_within levels u) pid u.links
      = branches_along place part.rises pid u.links w.links s.leaving (tree_within levels u) (tree_within levels w)
      (All-weaker (λ l. is_call_from pid l ≡ true → IsProcess u l.target) (λ l. is_call_from pid l ≡ true → tree_within levels w (place l.target) ≡ tree_within levels u l.target)
      (λ l there h. tree_placed levels l.target (there h)) u.links (its_calls_there u consistent pid p)) in
      ap (option_and_then (λ x. option_map (tree_with x (recorded_outputs w (place pid))) (branches (tree_within levels w) (place pid) w.links))) s.found
      ∙ tree_made pid levels p.0 s.there s.same (outputs_placed pid p) calls
      ∙ sym (ap (option_and_then (λ x. option_map (tree_with x (recorded_outputs u pid)) (branches (tree_within levels u) pid u.links))) p.1)
