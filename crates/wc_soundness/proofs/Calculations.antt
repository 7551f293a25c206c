-- A calculation calls nothing: its recorded tree has no calls, and what it means doesn't hang on its depth.
use Rattle.std.proofs.Common.{◌≡◌, ◌≢◌, ℕ, zero, suc, Bool, true, false, Option, Some, None, List, [], get_or, inl, inr, refl, ap, subst, ◌∙◌}
use Rattle.std.specs.Prelude.{IsSomeAnd, if◌then◌else◌, option_map, option_and_then}
use Rattle.std.proofs.lemmas.Bool.{cases_Bool, eqb-true}
use Rattle.wc_value.specs.declared.process.ProcessState.{ProcessState}
use Rattle.wc_value.specs.declared.process.ProcessState.TheVariants as state
use Rattle.wc_syntax.specs.Findings.{definition_named}
use Rattle.wc_syntax.specs.declared.definition.Definition.{Definition}
use Rattle.wc_graph.specs.Rules.{node_of, IsWorkflow, Leaves}
use Rattle.wc_graph.specs.declared.link.LinkType.{LinkType}
use Rattle.wc_graph.specs.declared.link.LinkType.TheVariants as link
use Rattle.wc_graph.specs.declared.node.NodeKind.{NodeKind}
use Rattle.wc_state.specs.declared.record.ProcessKind.{ProcessKind}
use Rattle.wc_state.specs.declared.record.ProcessKind.TheVariants as kind
use Rattle.wc_state.specs.declared.record.ProcessRecord.{ProcessRecord}
use Rattle.wc_semantics.specs.Rules.{Values}
use Rattle.wc_semantics.specs.declared.progress.Answer.{Answer}
use Rattle.wc_semantics.specs.Run.{Around}
use Rattle.wc_semantics.specs.Tables.{Table, Kills, under}
use Rattle.wc_semantics.specs.Meaning.{is_killed, whole, by_kill, surrounding, meaning}
use Rattle.wc_world.specs.World.{World}
use Rattle.wc_world.specs.Consistent.{IsConsistent}
use Rattle.wc_world.specs.Fits.{calls_from}
use Rattle.wc_world.specs.Records.{find_record, is_calculation, process_node, calls, is_call_from, library_at}
use Rattle.wc_world.specs.Trees.{branches, tree_with, tree_within, recorded_tree}
use Rattle.wc_world.proofs.FoundRecords.{left, right}
use Rattle.wc_machine.specs.Paths.{cut_after, kills}
use Rattle.wc_machine.specs.Recorded.{its_definition, recorded_inputs, recorded_outputs}
use Rattle.wc_machine.specs.Rest.{levels_of, meant}
use Rattle.wc_machine.proofs.AcceptedEnds.{process_is_node}
use Rattle.wc_machine.proofs.Frames.{NoCallFrom, branches_before}

-- ---- no calls

no_workflow : (k : ProcessKind) → is_calculation k ≡ true → IsWorkflow (process_node k) → ⊥
no_workflow kind.Function h w = w
no_workflow kind.Job h w = w
no_workflow kind.Chain h w = absurd (cc)

leaves_workflow : (t : LinkType) (o : Option NodeKind) → calls t ≡ true → IsSomeAnd o (Leaves t) → IsSomeAnd o IsWorkflow
leaves_workflow link.InputCalc o c h = absurd (cc)
leaves_workflow link.InputWork o c h = absurd (cc)
leaves_workflow link.Create o c h = absurd (cc)
leaves_workflow link.Return o c h = absurd (cc)
leaves_workflow link.CallCalc o c h = h
leaves_workflow link.CallWork o c h = h

pub calls_nothing : (w : World) → IsConsistent w → (r : ProcessRecord) → find_record r.node w.records ≡ Some r → is_calculation r.kind ≡ true → NoCallFrom r.node w.links
calls_nothing w c r found calculates i d lt =
    let l = get_or w.links i d in
    elim (cases_Bool (is_call_from r.node l)) [
      | inl h ↦
          let from : l.source ≡ r.node = eqb-true l.source r.node (right (calls l.link) _ h) in
          let some : node_of w.nodes l.source ≡ Some (process_node r.kind) = ap (node_of w.nodes) from ∙ process_is_node w c r found in
          absurd (no_workflow r.kind calculates
          (subst (λ (o : Option NodeKind). IsSomeAnd o IsWorkflow) some (leaves_workflow l.link (node_of w.nodes l.source) (left (calls l.link) _ h) (c.links.ends i d lt).0)))
      | inr h ↦ h
    ]

-- ---- its tree and its kill

pub leaf_recorded : (w : World) (r : ProcessRecord) → find_record r.node w.records ≡ Some r → NoCallFrom r.node w.links
    → recorded_tree w r.node ≡ Some (tree_with r (recorded_outputs w r.node) [])
leaf_recorded w r found quiet =
    ap (option_and_then (λ x. option_map (tree_with x (recorded_outputs w r.node)) (branches (tree_within 15 w) r.node w.links))) found
    ∙ ap (option_map (tree_with r (recorded_outputs w r.node))) (branches_before (tree_within 15 w) r.node [] w.links quiet)

not_killed : (s : ProcessState) → s ≢ state.Killed → is_killed s ≡ false
not_killed state.Created h = refl
not_killed state.Running h = refl
not_killed state.Waiting h = refl
not_killed (state.Finished n) h = refl
not_killed (state.Excepted r) h = refl
not_killed state.Killed h = absurd (h refl)

pub alive_uncut : (w : World) (r : ProcessRecord) → find_record r.node w.records ≡ Some r → r.state ≢ state.Killed → kills w r.node [] ≡ None
alive_uncut w r found alive =
    ap (option_and_then (cut_after w)) found ∙ ap (λ (b : Bool). if b then Some (calls_from r.node w.links) else None) (not_killed r.state alive)

-- ---- what it means

-- a definition gives so at each depth, whatever surrounds it
abbrev pub GivesWhole : Definition → Table → ℕ → List ℕ → Values → Answer → Type 0
GivesWhole d table n name inputs answer = (a : Around) → whole (Some d) a (table []) n name inputs ≡ answer

meaning_whole : (levels : ℕ) (library : List Definition) (table : Table) (cuts : Kills) (n : ℕ) (name : List ℕ) (inputs : Values) (d : Definition) (answer : Answer)
    → definition_named name library ≡ Some d → cuts [] ≡ None → GivesWhole d table n name inputs answer
    → meaning levels library table cuts n name inputs ≡ answer
meaning_whole zero library table cuts n name inputs d answer is alive gives =
    let a = surrounding library None in
    (λ i. by_kill (alive i) (is i) a (table []) n name inputs) ∙ gives a
meaning_whole (suc levels) library table cuts n name inputs d answer is alive gives =
    let a = surrounding library (Some (λ l. meaning levels library (under l table) (under l cuts))) in
    (λ i. by_kill (alive i) (is i) a (table []) n name inputs) ∙ gives a

definition_parts : (name : List ℕ) (o : Option (List Definition)) (d : Definition) → option_and_then (definition_named name) o ≡ Some d
    → (library : List Definition) × (o ≡ Some library) × (definition_named name library ≡ Some d)
definition_parts name None d h = absurd (cc)
definition_parts name (Some library) d h = (library, refl, h)

-- What a process means that wasn't killed is what its definition gives, the same at each depth.
pub meant_whole : (w : World) (r : ProcessRecord) (d : Definition) (table : Table) (cuts : Kills) (n : ℕ) (answer : Answer) → its_definition w r ≡ Some d → cuts [] ≡ None
    → GivesWhole d table n r.definition (recorded_inputs w r.node) answer → meant w r table cuts n ≡ Some answer
meant_whole w r d table cuts n answer is alive gives =
    let p = definition_parts r.definition (library_at w.libraries r.library) d is in
    ap (option_map (λ library. meaning (levels_of r) library table cuts n r.definition (recorded_inputs w r.node))) p.1
    ∙ ap (λ (a : Answer). Some a) (meaning_whole (levels_of r) p.0 table cuts n r.definition (recorded_inputs w r.node) d answer p.2 alive gives)
