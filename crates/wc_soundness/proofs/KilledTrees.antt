-- The tree of a killed process: what a killed run leaves, and what a world records.
use Rattle.std.proofs.Common.{◌≡◌, ℕ, zero, suc, ◌+◌, ◌≤◌, Bool, true, false, List, [], Option, Some, None, map, get_or, sym, ap, ◌∙◌, arith}
use Rattle.std.specs.Prelude.{All, if◌then◌else◌, option_map, option_and_then}
use Rattle.wc_value.specs.declared.process.ProcessState.{ProcessState}
use Rattle.wc_value.specs.declared.process.ProcessState.TheVariants as state
use Rattle.wc_value.specs.declared.process.Tree.{Tree, Tree-F, out-Tree, roll-Tree, out-roll-Tree}
use Rattle.wc_syntax.specs.Findings.{definition_named}
use Rattle.wc_syntax.specs.declared.definition.Definition.{Definition}
use Rattle.wc_syntax.specs.declared.definition.Definition.TheVariants as definition
use Rattle.wc_syntax.specs.declared.definition.Port.{Port}
use Rattle.wc_graph.specs.declared.link.Link.{Link}
use Rattle.wc_graph.specs.Rules.{IsCall}
use Rattle.wc_semantics.specs.Rules.{Values}
use Rattle.wc_semantics.specs.declared.progress.Answer.TheVariants.{Gave, Astray}
use Rattle.wc_semantics.specs.declared.progress.Flow.{Flow}
use Rattle.wc_semantics.specs.declared.progress.Flow.TheVariants.{Goes, Ends, NoFuel, Lacks, Off}
use Rattle.wc_semantics.specs.declared.progress.Progress.{Progress}
use Rattle.wc_semantics.specs.declared.progress.Replayed.{Replayed}
use Rattle.wc_semantics.specs.Meaning.{by_kill, chain_tree, cut, end, ended, first, its_tree, judged, kept, killed_first, meaning, strays, surrounding, within}
use Rattle.wc_semantics.specs.Run.{Around, instrs, run}
use Rattle.wc_semantics.specs.Tables.{Label, Table, Kills, under}
use Rattle.wc_state.specs.declared.record.ProcessRecord.{ProcessRecord}
use Rattle.wc_world.specs.World.{World}
use Rattle.wc_world.specs.Fits.{call_fits}
use Rattle.wc_world.specs.Records.{find_record, is_call_from}
use Rattle.wc_world.specs.Trees.{Branch, outputs_of, tree_with, tree_within, values_alone}
use Rattle.wc_world.proofs.FoundRecords.{IsDeeper, call_is_deeper, found_holds}
use Rattle.wc_machine.proofs.Frames.{branches_by}

-- ---- runs

-- an end of a run is a tree of the chain
pub record IsChainEnd (name : List ℕ) (x : Replayed) : Type 0 where
  pub state : ProcessState
  pub progress : Progress
  pub is : x ≡ chain_tree name state progress

end_is : (stop : Option ℕ) (name : List ℕ) (s : ProcessState) (n : ℕ) (e : Progress) (x : Replayed) (m : ℕ) → end stop name s n e ≡ Gave x m → IsChainEnd name x
end_is stop name s n e x m h = at (strays stop s) h
  where
    at : (b : Bool) → (if b then Astray else Gave (chain_tree name s e) n) ≡ Gave x m → IsChainEnd name x
    at true h = absurd (cc h)
    at false h = record { state = s; progress = e; is = cc }

ended_is : (stop : Option ℕ) (name : List ℕ) (ports : List Port) (f : Flow) (x : Replayed) (m : ℕ) → ended stop name ports f ≡ Gave x m → IsChainEnd name x
ended_is stop name ports (Goes n e) x m h = end_is stop name (judged ports (state.Finished 0) e.outputs) n e x m h
ended_is stop name ports (Ends s n e) x m h = end_is stop name (judged ports s e.outputs) n e x m h
ended_is stop name ports NoFuel x m h = absurd (cc h)
ended_is stop name ports (Lacks q) x m h = absurd (cc h)
ended_is stop name ports Off x m h = absurd (cc h)

cut_is : (c : ℕ) (d : Option Definition) (a : Around) (n : ℕ) (name : List ℕ) (inputs : Values) (x : Replayed) (m : ℕ) → cut (suc c) d a n name inputs ≡ Gave x m → IsChainEnd name x
cut_is c None a n name inputs x m h = absurd (cc h)
cut_is c (Some (definition.Function f)) a n name inputs x m h = absurd (cc h)
cut_is c (Some (definition.Job j)) a n name inputs x m h = absurd (cc h)
cut_is c (Some (definition.Chain k)) a n name inputs x m h =
    ended_is (Some (suc c)) name k.head.outputs (run (instrs k.outline) (within k.head.outputs (Some (suc c)) a) n (first inputs)) x m h

-- what a definition leaves that is killed after some calls
pub killed_is : (levels : ℕ) (library : List Definition) (table : Table) (h : Kills) (n : ℕ) (name : List ℕ) (inputs : Values) (c : ℕ) (x : Replayed) (m : ℕ) → h [] ≡ Some (suc c)
    → meaning levels library table h n name inputs ≡ Gave x m → IsChainEnd name x
killed_is zero library table h n name inputs c x m k g =
    cut_is c (definition_named name library) (surrounding library None) n name inputs x m
    (sym (ap (λ (o : Option ℕ). by_kill o (definition_named name library) (surrounding library None) (table []) n name inputs) k) ∙ g)
killed_is (suc levels) library table h n name inputs c x m k g =
    cut_is c (definition_named name library) (surrounding library (Some (λ l. meaning levels library (under l table) (under l h)))) n name inputs x m
    (sym (ap (λ (o : Option ℕ). by_kill o (definition_named name library) (surrounding library (Some (λ l. meaning levels library (under l table) (under l h)))) (table []) n name inputs) k) ∙ g)

-- and one that is killed before its first call
pub killed_before : (levels : ℕ) (library : List Definition) (table : Table) (h : Kills) (n : ℕ) (name : List ℕ) (inputs : Values) → h [] ≡ Some 0
    → meaning levels library table h n name inputs ≡ Gave (killed_first name) n
killed_before zero library table h n name inputs k =
    ap (λ (o : Option ℕ). by_kill o (definition_named name library) (surrounding library None) (table []) n name inputs) k
killed_before (suc levels) library table h n name inputs k =
    ap (λ (o : Option ℕ). by_kill o (definition_named name library) (surrounding library (Some (λ l. meaning levels library (under l table) (under l h)))) (table []) n name inputs) k

-- the tree of a killed process
abbrev pub killed_with : List ℕ → List (Label × Tree) → Tree
killed_with name calls = roll-Tree (record { definition = name; state = state.Killed; outputs = []; calls = calls })

-- a tree of a killed chain has no outputs
pub killed_tree_is : (name : List ℕ) (x : Replayed) (calls : List (Label × Tree)) → IsChainEnd name x → (out-Tree x.tree).state ≡ state.Killed → (out-Tree x.tree).calls ≡ calls
    → x.tree ≡ killed_with name calls
killed_tree_is name x calls e dead called =
    let s : ProcessState = e.state in
    let f : Tree-F Tree = record { definition = name; state = s; outputs = kept s e.progress.outputs; calls = map its_tree e.progress.calls } in
    let rolled : x.tree ≡ roll-Tree f = ap (λ (y : Replayed). y.tree) e.is in
    let opened : out-Tree x.tree ≡ f = ap out-Tree rolled ∙ out-roll-Tree f in
    let killed : s ≡ state.Killed = sym (ap (λ (g : Tree-F Tree). g.state) opened) ∙ dead in
    let same : map its_tree e.progress.calls ≡ calls = sym (ap (λ (g : Tree-F Tree). g.calls) opened) ∙ called in
    rolled ∙ (λ i. roll-Tree (record { definition = name; state = killed i; outputs = kept (killed i) e.progress.outputs; calls = same i }))

-- ---- recorded trees

-- calls go one deeper, from depth 1 to 16
pub record IsLeveled (w : World) : Type 0 where
  pub calls : All (λ l. IsCall l.link → call_fits w.records l ≡ true) w.links
  pub depths : All (λ r. r.depth ≤ 16) w.records

module _ (w : World) (h : IsLeveled w) where
  abbrev IsStable : ℕ → Type 0
  IsStable levels = (pid : ℕ) (r : ProcessRecord) → find_record pid w.records ≡ Some r → 17 ≤ levels + r.depth → tree_within levels w pid ≡ tree_within (suc levels) w pid

  -- so many levels are enough for a process of its depth, and one more changes nothing
  pub levels_enough : (levels : ℕ) → IsStable levels
  levels_enough zero pid r e d = let above : r.depth ≤ 16 = found_holds (λ r. r.depth ≤ 16) pid w.records r h.depths e in absurd (omega (arith, d, above))
  levels_enough (suc levels) pid r e d =
      let below : All (λ l. is_call_from pid l ≡ true → tree_within levels w l.target ≡ tree_within (suc levels) w l.target) w.links =
      (λ i x lt called.
      let l : Link = get_or w.links i x in
      let deeper : IsDeeper r (find_record l.target w.records) = call_is_deeper w.records l pid r e called (h.calls i x lt) in
      let depth : deeper.0.depth ≡ suc r.depth = deeper.2 in
      let enough : 17 ≤ levels + deeper.0.depth = omega (arith, d, depth) in
      levels_enough levels l.target deeper.0 deeper.1 enough) in
      ap (λ (bs : Option (List Branch)). option_and_then (λ x. option_map (tree_with x (values_alone (outputs_of w pid))) bs) (find_record pid w.records))
      (branches_by (tree_within levels w) (tree_within (suc levels) w) pid w.links below)
