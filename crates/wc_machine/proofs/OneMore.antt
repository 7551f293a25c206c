-- A world with one process more, to which its new links lead: what is recorded of each other process stays.
use Rattle.std.proofs.Common.{◌≡◌, ℕ, zero, suc, ◌<◌, ◌≤◌, true, false, Option, Some, None, List, [], ◌∷◌, ◌++◌, length, get_or, refl, ap, ◌∙◌, arith}
use Rattle.std.specs.Prelude.{All, ◌≢◌, ◌==◌, if◌then◌else◌, option_map, option_and_then, codes}
use Rattle.std.proofs.lemmas.Bool.{cond-false, ne_eqb}
use Rattle.std.proofs.lemmas.List.Elements.{All-weaker, All-push}
use Rattle.wc_value.specs.Ascending.{lookup}
use Rattle.wc_value.specs.declared.process.JobResult.{JobResult}
use Rattle.wc_syntax.specs.Findings.{definition_named}
use Rattle.wc_syntax.specs.declared.definition.Definition.{Definition}
use Rattle.wc_graph.specs.declared.link.Link.{Link}
use Rattle.wc_graph.specs.declared.node.NodeKind.{NodeKind}
use Rattle.wc_graph.specs.Rules.{HasRightEnds}
use Rattle.wc_semantics.specs.Rules.{Values}
use Rattle.wc_semantics.specs.Meaning.{is_killed, meaning}
use Rattle.wc_semantics.specs.Tables.{Path, Table, Kills}
use Rattle.wc_state.specs.declared.record.ProcessKind.{ProcessKind}
use Rattle.wc_state.specs.declared.record.ProcessRecord.{ProcessRecord}
use Rattle.wc_world.specs.Applied.{made}
use Rattle.wc_world.specs.World.{World, Known}
use Rattle.wc_records.specs.declared.change.NewProcess.{NewProcess}
use Rattle.wc_world.specs.Consistent.{IsConsistent, Stands}
use Rattle.wc_world.specs.Fits.{is_of_kind}
use Rattle.wc_world.specs.Records.{find_record, library_at, definition_in, is_call_from}
use Rattle.wc_world.specs.Trees.{branches, tree_with, tree_within, recorded_tree, values_alone}
use Rattle.wc_world.proofs.ReachedLists.{AreUnique, unique, find_grown, found_has}
use Rattle.wc_machine.specs.Agreement.{Agrees}
use Rattle.wc_machine.specs.Paths.{follow, kills, cut_after}
use Rattle.wc_machine.specs.Recorded.{its_definition, recorded_inputs, recorded_outputs, recorded_request, request_by, retrieved_folder, folder_of, HasResult, own, cached}
use Rattle.wc_machine.specs.Rest.{meant, levels_of}
use Rattle.wc_machine.proofs.Frames.{NoInput, NoOutput, NoCalls, no_call_from, node_number, target_is_node, find_before, library_stays, inputs_stay, outputs_stay, branches_before, branches_by, follow_before, calls_before, path_within, records_below}

-- a process more with this number, and nodes, links and libraries: the links lead to it alone, and are neither outputs nor calls
pub record Addition (w : World) : Type 0 where
  pub nodes : List NodeKind
  pub links : List Link
  pub number : ℕ
  pub process : NewProcess
  pub libraries : List Known
  pub batches : ℕ
  pub beyond : length w.nodes < number
  pub outputs : (q : ℕ) → NoOutput q links
  pub calls : NoCalls links
  pub inputs : (q : ℕ) → number ≢ q → NoInput q links

library_there : (libraries : List Known) (number : ℕ) (name : List ℕ) (k : ProcessKind) → is_of_kind k (definition_in libraries number name) ≡ true
    → (l : List Definition) × (library_at libraries number ≡ Some l)
library_there libraries number name k h = at (library_at libraries number) refl h
  where
    at : (o : Option (List Definition)) → library_at libraries number ≡ o → is_of_kind k (option_and_then (definition_named name) o) ≡ true
        → (l : List Definition) × (library_at libraries number ≡ Some l)
    at None is e = absurd (cc)
    at (Some l) is e = (l, is)

-- the record of the new process
abbrev pub added : (w : World) → Addition w → ProcessRecord
added w add = made add.number add.process

abbrev pub grown : (w : World) → Addition w → World
grown w add = record {
  nodes = w.nodes ++ add.nodes;
  links = w.links ++ add.links;
  records = w.records ++ added w add ∷ [];
  libraries = w.libraries ++ add.libraries;
  batches = add.batches;
}

module _ (w : World) (h : IsConsistent w) (add : Addition w) where
  -- ---- one process

  pub differs : (pid : ℕ) → pid ≤ length w.nodes → add.number ≢ pid
  differs pid le e = let lt : length w.nodes < add.number = add.beyond in absurd (omega arith)

  pub no_calls_from : (pid : ℕ) → All (λ l. is_call_from pid l ≡ false) add.links
  no_calls_from pid = no_call_from pid add.links add.calls

  pub found_stays : (pid : ℕ) → pid ≤ length w.nodes → find_record pid (grown w add).records ≡ find_record pid w.records
  found_stays pid le = find_before pid w.records (added w add ∷ []) (cond-false (add.number == pid) (Some (added w add)) None (ne_eqb add.number pid (differs pid le)))

  pub found_again : (pid : ℕ) (r : ProcessRecord) → find_record pid w.records ≡ Some r → find_record pid (grown w add).records ≡ Some r
  found_again pid r e = find_grown pid w.records (added w add ∷ []) r e

  pub inputs_kept : (pid : ℕ) → pid ≤ length w.nodes → recorded_inputs (grown w add) pid ≡ recorded_inputs w pid
  inputs_kept pid le = ap values_alone (inputs_stay w.nodes add.nodes pid w.links add.links h.links.ends (add.inputs pid (differs pid le)))

  pub outputs_kept : (pid : ℕ) → recorded_outputs (grown w add) pid ≡ recorded_outputs w pid
  outputs_kept pid = ap values_alone (outputs_stay w.nodes add.nodes pid w.links add.links h.links.ends (add.outputs pid))

  pub folder_kept : (pid : ℕ) → retrieved_folder (grown w add) pid ≡ retrieved_folder w pid
  folder_kept pid = ap (λ (os : Values). option_and_then folder_of (lookup (codes "retrieved") os)) (outputs_kept pid)

  -- ---- the definition of a process

  pub library_kept : (r : ProcessRecord) → Stands w r → library_at (grown w add).libraries r.library ≡ library_at w.libraries r.library
  library_kept r s = let l = library_there w.libraries r.library r.definition r.kind s.defined in library_stays w.libraries add.libraries r.library l.0 l.1

  pub definition_kept : (r : ProcessRecord) → Stands w r → its_definition (grown w add) r ≡ its_definition w r
  definition_kept r s = ap (option_and_then (definition_named r.definition)) (library_kept r s)

  pub number_within : (pid : ℕ) (r : ProcessRecord) → find_record pid w.records ≡ Some r → r.node ≤ length w.nodes
  number_within pid r e =
      let lt : r.node < suc (length w.nodes) = found_has (λ x. x.node < suc (length w.nodes)) pid w.records r e (records_below w.nodes w.records h.numbered) in
      omega arith

  pub stands : (pid : ℕ) (r : ProcessRecord) → find_record pid w.records ≡ Some r → Stands w r
  stands pid r e = found_has (Stands w) pid w.records r e h.records

  pub request_kept : (r : ProcessRecord) → Stands w r → r.node ≤ length w.nodes → recorded_request (grown w add) r ≡ recorded_request w r
  request_kept r s le = λ i. request_by (definition_kept r s i) (inputs_kept r.node le i)

  pub meant_kept : (r : ProcessRecord) → Stands w r → r.node ≤ length w.nodes → (table : Table) (cuts : Kills) (n : ℕ)
      → meant (grown w add) r table cuts n ≡ meant w r table cuts n
  meant_kept r s le table cuts n =
      λ i. option_map (λ library. meaning (levels_of r) library table cuts n r.definition (inputs_kept r.node le i)) (library_kept r s i)

  -- ---- results and kills

  pub result_kept : (pid : ℕ) (result : JobResult) → HasResult w pid result → HasResult (grown w add) pid result
  result_kept pid result (own r code files found is_job is_code folder) = own r code files (found_again r.node r found) is_job is_code (folder_kept r.node ∙ folder)
  result_kept pid result (cached r source result' found is_job alive from rest) =
      cached r source result' (found_again r.node r found) is_job alive from (result_kept source result' rest)

  pub agrees_before : (table : Table) (pid : ℕ) → Agrees table (grown w add) pid → Agrees table w pid
  agrees_before table pid agrees path r q result leads found asked has =
      agrees path r q result (follow_before w.links add.links add.calls path pid ∙ leads) (found_again r.node r found)
      (request_kept r (stands r.node r found) (number_within r.node r found) ∙ asked) (result_kept r.node result has)

  cut_kept : (r : ProcessRecord) → cut_after (grown w add) r ≡ cut_after w r
  cut_kept r = ap (λ (n : ℕ). if is_killed r.state then Some n else None) (calls_before r.node w.links add.links (no_calls_from r.node))

  kill_kept : (pid : ℕ) → pid ≤ length w.nodes → (path : Path) → kills (grown w add) pid path ≡ kills w pid path
  kill_kept pid within path =
      ap (option_and_then (λ q. option_and_then (cut_after (grown w add)) (find_record q (grown w add).records))) (follow_before w.links add.links add.calls path pid)
      ∙ at (follow w.links pid path) refl
    where
      at : (o : Option ℕ) → follow w.links pid path ≡ o
          → option_and_then (λ q. option_and_then (cut_after (grown w add)) (find_record q (grown w add).records)) o
          ≡ option_and_then (λ q. option_and_then (cut_after w) (find_record q w.records)) o
      at None is = refl
      at (Some q) is =
          let le : q ≤ length w.nodes = path_within w.nodes w.links h.links.ends path pid q within is in
          λ i. option_and_then (λ r. cut_kept r i) (found_stays q le i)

  pub kills_kept : (pid : ℕ) → pid ≤ length w.nodes → kills (grown w add) pid ≡ kills w pid
  kills_kept pid le = λ i path. kill_kept pid le path i

  -- ---- trees

  tree_kept : (levels pid : ℕ) → pid ≤ length w.nodes → tree_within levels (grown w add) pid ≡ tree_within levels w pid
  tree_kept zero pid le = refl
  tree_kept (suc levels) pid le =
      let below : All (λ l. is_call_from pid l ≡ true → tree_within levels (grown w add) l.target ≡ tree_within levels w l.target) w.links
      = All-weaker (HasRightEnds w.nodes) (λ l. is_call_from pid l ≡ true → tree_within levels (grown w add) l.target ≡ tree_within levels w l.target)
      (λ l e c. tree_kept levels l.target (node_number w.nodes l.target (target_is_node w.nodes l e))) w.links h.links.ends in
      let same : branches (tree_within levels (grown w add)) pid (grown w add).links ≡ branches (tree_within levels w) pid w.links
      = branches_before (tree_within levels (grown w add)) pid w.links add.links (no_calls_from pid)
      ∙ branches_by (tree_within levels (grown w add)) (tree_within levels w) pid w.links below in
      λ i. option_and_then (λ r. option_map (tree_with r (outputs_kept pid i)) (same i)) (found_stays pid le i)

  pub recorded_tree_kept : (pid : ℕ) → pid ≤ length w.nodes → recorded_tree (grown w add) pid ≡ recorded_tree w pid
  recorded_tree_kept = tree_kept 16

  -- what holds of each record that was there, and of the new one
  pub every : (Q : ProcessRecord → Type 0) → ((r : ProcessRecord) → find_record r.node w.records ≡ Some r → Q r) → Q (added w add) → All Q (grown w add).records
  every Q old last =
      let there : AreUnique w.records = unique 1 w.nodes w.records h.numbered in
      All-push Q w.records (added w add) (λ i d lt. old (get_or w.records i d) (there i d lt)) last
