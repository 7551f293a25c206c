-- A table that agrees with a later world agrees with each world that it continues.
use Rattle.std.proofs.Common.{◌≡◌, ℕ, ℤ, Bool, true, false, Option, Some, None, List, [], ◌∷◌, ◌++◌, refl, sym, ap, ◌∙◌}
use Rattle.std.specs.Prelude.{◌&&◌, if◌then◌else◌, option_map, option_and_then, codes}
use Rattle.std.specs.Str.{bytes_eq}
use Rattle.wc_value.specs.Ascending.{lookup}
use Rattle.wc_value.specs.declared.process.JobResult.{JobResult}
use Rattle.wc_value.specs.declared.process.Request.{Request}
use Rattle.wc_value.specs.declared.process.Tree.{Tree, Tree-F, out-Tree, out-roll-Tree}
use Rattle.wc_syntax.specs.Findings.{definition_named}
use Rattle.wc_syntax.specs.declared.definition.Definition.{Definition}
use Rattle.wc_graph.specs.declared.link.Link.{Link}
use Rattle.wc_semantics.specs.Rules.{Values}
use Rattle.wc_expression.specs.declared.outcome.Outcome.TheVariants.{Gives}
use Rattle.wc_semantics.specs.Tables.{Label, Path}
use Rattle.wc_state.specs.declared.record.ProcessRecord.{ProcessRecord}
use Rattle.wc_world.specs.World.{World, Known}
use Rattle.wc_world.specs.Records.{find_record, has_ended, is_call_from, library_at}
use Rattle.wc_world.specs.Trees.{Branch, branches, recorded_tree, tree_with, tree_within}
use Rattle.wc_world.proofs.FoundRecords.{found_holds}
use Rattle.wc_machine.specs.Continues.{Carries, Continues}
use Rattle.wc_machine.specs.Paths.{called_under, follow}
use Rattle.wc_machine.specs.Recorded.{recorded_inputs, recorded_outputs, recorded_request, request_by, folder_of, HasResult, own, cached}
use Rattle.wc_machine.specs.Sound.{IsFitting, IsSound}
use Rattle.wc_machine.proofs.Frames.{library_stays}
use Rattle.wc_soundness.specs.ResultLaws.{LaterTablesAgree}
use Rattle.wc_machine.specs.Results.{table_of}
use Rattle.wc_soundness.proofs.FoundResults.{its_table_agrees}
use Rattle.wc_soundness.proofs.OneMeaning.{recorded_is_meant}

-- ---- paths

called_grown : (ls new : List Link) (pid : ℕ) (label : Label) (q : ℕ) → called_under ls pid label ≡ Some q → called_under (ls ++ new) pid label ≡ Some q
called_grown [] new pid label q h = absurd (cc)
called_grown (l ∷ ls) new pid label q h = at (is_call_from pid l && bytes_eq l.label label) (called_grown ls new pid label q) h
  where
    at : (b : Bool) → (called_under ls pid label ≡ Some q → called_under (ls ++ new) pid label ≡ Some q)
        → (if b then Some l.target else called_under ls pid label) ≡ Some q → (if b then Some l.target else called_under (ls ++ new) pid label) ≡ Some q
    at true rest e = e
    at false rest e = rest e

-- a path leads where it led
follow_grown : (ls new : List Link) (path : Path) (pid q : ℕ) → follow ls pid path ≡ Some q → follow (ls ++ new) pid path ≡ Some q
follow_grown ls new [] pid q h = h
follow_grown ls new (label ∷ path) pid q h = at (called_under ls pid label) refl (λ c. follow_grown ls new path c q) h
  where
    at : (o : Option ℕ) → called_under ls pid label ≡ o → ((c : ℕ) → follow ls c path ≡ Some q → follow (ls ++ new) c path ≡ Some q)
        → option_and_then (λ c. follow ls c path) o ≡ Some q → follow (ls ++ new) pid (label ∷ path) ≡ Some q
    at None is rest e = absurd (cc)
    at (Some c) is rest e = ap (option_and_then (λ x. follow (ls ++ new) x path)) (called_grown ls new pid label c is) ∙ rest c e

-- ---- trees

-- a recorded tree has the recorded outputs
tree_outputs : (w : World) (r : ProcessRecord) (t : Tree) → find_record r.node w.records ≡ Some r → recorded_tree w r.node ≡ Some t
    → (out-Tree t).outputs ≡ recorded_outputs w r.node
tree_outputs w r t found is =
    by (branches (tree_within 15 w) r.node w.links)
    (sym (ap (option_and_then (λ q. option_map (tree_with q (recorded_outputs w r.node)) (branches (tree_within 15 w) r.node w.links))) found) ∙ is)
  where
    by : (o : Option (List Branch)) → option_map (tree_with r (recorded_outputs w r.node)) o ≡ Some t → (out-Tree t).outputs ≡ recorded_outputs w r.node
    by None e = absurd (cc)
    by (Some calls) e =
        let same : t ≡ tree_with r (recorded_outputs w r.node) calls = cc in
        ap (λ (x : Tree). (out-Tree x).outputs) same
        ∙ ap (λ (f : Tree-F Tree). f.outputs) (out-roll-Tree (record { definition = r.definition; state = r.state; outputs = recorded_outputs w r.node; calls = calls }))

one_found : (o : Option ProcessRecord) (r q : ProcessRecord) → o ≡ Some r → o ≡ Some q → r ≡ q
one_found o r q h k = let e : Some r ≡ Some q = sym h ∙ k in cc

-- ---- what a later world keeps

module _ (v w : World) (s : IsSound v) (c : Continues v w) where
  module _ (r : ProcessRecord) (found : find_record r.node v.records ≡ Some r) where
    fitting : IsFitting v r
    fitting = found_holds (IsFitting v) r.node v.records r s.records found

    library_kept : (l : List Definition) → library_at v.libraries r.library ≡ Some l → library_at w.libraries r.library ≡ library_at v.libraries r.library
    library_kept l there =
        ap (λ (ks : List Known). library_at ks r.library) c.libraries.1 ∙ library_stays v.libraries c.libraries.0 r.library l there

    pub request_kept : (q : Request) → recorded_request v r ≡ Some (Gives q) → recorded_request w r ≡ Some (Gives q)
    request_kept q asked = by (library_at v.libraries r.library) refl asked
      where
        inputs : recorded_inputs w r.node ≡ recorded_inputs v r.node
        inputs = found_holds (λ x. recorded_inputs w x.node ≡ recorded_inputs v x.node) r.node v.records r c.inputs found

        by : (o : Option (List Definition)) → library_at v.libraries r.library ≡ o
            → request_by (option_and_then (definition_named r.definition) o) (recorded_inputs v r.node) ≡ Some (Gives q) → recorded_request w r ≡ Some (Gives q)
        by None is e = absurd (cc)
        by (Some l) is e = (λ i. request_by (option_and_then (definition_named r.definition) ((library_kept l is ∙ is) i)) (inputs i)) ∙ e

    module _ (over : has_ended r.state ≡ true) where
      pub record_kept : find_record r.node w.records ≡ Some r
      record_kept =
          let h = found_holds (λ x. (y : ProcessRecord) × (find_record x.node w.records ≡ Some y) × Carries x y) r.node v.records r c.records found in
          h.1 ∙ ap (λ (x : ProcessRecord). Some x) (h.2.ended over)

      pub outputs_kept : recorded_outputs w r.node ≡ recorded_outputs v r.node
      outputs_kept =
          let m = recorded_is_meant v r (table_of v r.node) 0 s (record { found = found; ended = over }) (its_table_agrees v s r.node) in
          let tree : recorded_tree w r.node ≡ recorded_tree v r.node
          = found_holds (λ x. has_ended x.state ≡ true → recorded_tree w x.node ≡ recorded_tree v x.node) r.node v.records r c.trees found over in
          sym (tree_outputs w r m.0 record_kept (tree ∙ m.1)) ∙ tree_outputs v r m.0 found m.1

    -- what has a code or a source has ended
    code_ends : (code : ℤ) → r.code ≡ Some code → has_ended r.state ≡ true
    code_ends code is = by (has_ended r.state) refl
      where
        by : (b : Bool) → has_ended r.state ≡ b → has_ended r.state ≡ true
        by true e = e
        by false e = let none = fitting.code e in absurd (cc (none, is))

    source_ends : (source : ℕ) → r.cached_from ≡ Some source → has_ended r.state ≡ true
    source_ends source is = by (has_ended r.state) refl
      where
        by : (b : Bool) → has_ended r.state ≡ b → has_ended r.state ≡ true
        by true e = e
        by false e = let none = fitting.source e in absurd (cc (none, is))

  -- ---- results

  pub result_ends : (q : ℕ) (x : JobResult) → HasResult v q x → (r : ProcessRecord) × (find_record q v.records ≡ Some r) × (has_ended r.state ≡ true)
  result_ends q x (own r code files found is_job is_code folder) = (r, found, code_ends r found code is_code)
  result_ends q x (cached r source y found is_job alive from rest) = (r, found, source_ends r found source from)

  pub result_kept : (q : ℕ) (x : JobResult) → HasResult v q x → HasResult w q x
  result_kept q x (own r code files found is_job is_code folder) =
      let over = code_ends r found code is_code in
      own r code files (record_kept r found over) is_job is_code
      (ap (λ (os : Values). option_and_then folder_of (lookup (codes "retrieved") os)) (outputs_kept r found over) ∙ folder)
  result_kept q x (cached r source y found is_job alive from rest) =
      cached r source y (record_kept r found (source_ends r found source from)) is_job alive from (result_kept source y rest)

pub later_tables_agree : LaterTablesAgree
later_tables_agree v w table pid s c agrees path r q x leads found asked has =
    let h = result_ends v w s c r.node x has in
    let over : has_ended r.state ≡ true = ap (λ (z : ProcessRecord). has_ended z.state) (one_found (find_record r.node v.records) r h.0 found h.1) ∙ h.2 in
    agrees path r q x (ap (λ (ls : List Link). follow ls pid path) c.links.1 ∙ follow_grown v.links c.links.0 path pid r.node leads)
    (record_kept v w s c r found over) (request_kept v w s c r found q asked) (result_kept v w s c r.node x has)
