-- Recorded trees one level apart, and the links that outputs and inputs come from.
use Rattle.std.proofs.Common.{◌≡◌, ℕ, zero, suc, ◌+◌, ◌≤◌, Bool, true, false, Option, Some, None, List, [], ◌∷◌, refl, sym, ap, ◌∙◌, arith}
use Rattle.std.specs.Prelude.{All, if◌then◌else◌}
use Rattle.std.specs.Option.{option_map, option_and_then}
use Rattle.std.proofs.lemmas.List.Elements.{All-head, All-tail, All-weaker}
use Rattle.wc_value.specs.declared.process.Tree.{Tree}
use Rattle.wc_graph.specs.Rules.{IsCall}
use Rattle.wc_graph.specs.declared.link.Link.{Link}
use Rattle.wc_state.specs.declared.record.ProcessRecord.{ProcessRecord}
use Rattle.wc_world.specs.World.{World}
use Rattle.wc_world.specs.Records.{find_record, is_call_from}
use Rattle.wc_world.specs.Fits.{call_fits}
use Rattle.wc_world.specs.Consistent.{Stands, IsConsistent}
use Rattle.wc_world.specs.Trees.{Branch, and_branch, branches, tree_with, tree_within, values_alone, outputs_of}
use Rattle.wc_trees.specs.TreeLaws.{TreesUnfold, OutputsAreLinked, InputsAreLinked}
use Rattle.wc_world.proofs.FoundRecords.{found_holds, IsDeeper, call_is_deeper}
use Rattle.wc_fits.proofs.LinkLabels.{outputs_told, inputs_told}
use Rattle.wc_world.proofs.ReachedWorlds.{reached_is_consistent}

-- ---- trees one level apart

-- two functions give the same tree of each process that this one called
abbrev SameTree : (ℕ → Option Tree) → (ℕ → Option Tree) → ℕ → Link → Type 0
SameTree f g pid l = is_call_from pid l ≡ true → f l.target ≡ g l.target

branches_same : (f g : ℕ → Option Tree) (pid : ℕ) (ls : List Link) → All (SameTree f g pid) ls → branches f pid ls ≡ branches g pid ls
branches_same f g pid [] a = refl
branches_same f g pid (l ∷ ls) a = at (is_call_from pid l) (All-head (SameTree f g pid) l ls a) (branches_same f g pid ls (All-tail (SameTree f g pid) l ls a))
  where
    at : (b : Bool) → (b ≡ true → f l.target ≡ g l.target) → branches f pid ls ≡ branches g pid ls
        → (if b then and_branch (f l.target) l.label (branches f pid ls) else branches f pid ls)
        ≡ (if b then and_branch (g l.target) l.label (branches g pid ls) else branches g pid ls)
    at true p q = ap (λ (o : Option Tree). and_branch o l.label (branches f pid ls)) (p refl) ∙ ap (and_branch (g l.target) l.label) q
    at false p q = q

-- the tree of a process from the trees of those that it called
abbrev tree_from : World → (ℕ → Option Tree) → ℕ → Option Tree
tree_from w tree pid = option_and_then (λ r. option_map (tree_with r (values_alone (outputs_of w pid))) (branches tree pid w.links)) (find_record pid w.records)

module _ (w : World) (h : IsConsistent w) where
  -- so many levels are enough for a process of depth d, and one more changes nothing
  abbrev IsStable : ℕ → Type 0
  IsStable levels = (pid : ℕ) (r : ProcessRecord) → find_record pid w.records ≡ Some r → 17 ≤ levels + r.depth → tree_within levels w pid ≡ tree_within (suc levels) w pid

  called_same : (levels pid : ℕ) (r : ProcessRecord) → find_record pid w.records ≡ Some r → 17 ≤ suc levels + r.depth → IsStable levels
      → All (SameTree (tree_within levels w) (tree_within (suc levels) w) pid) w.links
  called_same levels pid r e d rest = All-weaker Fits (SameTree (tree_within levels w) (tree_within (suc levels) w) pid) below w.links h.calls
    where
      Fits : Link → Type 0
      Fits l = IsCall l.link → call_fits w.records l ≡ true

      below : (l : Link) → (IsCall l.link → call_fits w.records l ≡ true) → SameTree (tree_within levels w) (tree_within (suc levels) w) pid l
      below l fits c =
          let deeper : IsDeeper r (find_record l.target w.records) = call_is_deeper w.records l pid r e c fits in
          let depth : deeper.0.depth ≡ suc r.depth = deeper.2 in
          let enough : 17 ≤ levels + deeper.0.depth = omega (arith, d, depth) in
          rest l.target deeper.0 deeper.1 enough

  stable : (levels : ℕ) → IsStable levels
  stable zero pid r e d = let above : r.depth ≤ 16 = (found_holds (Stands w) pid w.records r h.records e).not_above in absurd (omega (arith, d, above))
  stable (suc levels) pid r e d =
      ap (λ (bs : Option (List Branch)). option_and_then (λ x. option_map (tree_with x (values_alone (outputs_of w pid))) bs) (find_record pid w.records))
      (branches_same (tree_within levels w) (tree_within (suc levels) w) pid w.links (called_same levels pid r e d (stable levels)))

  unfolds_within : (levels pid : ℕ) → 16 ≤ suc levels → tree_within (suc levels) w pid ≡ tree_from w (tree_within (suc levels) w) pid
  unfolds_within levels pid d = at (find_record pid w.records) refl
    where
      none : (f : ProcessRecord → Option Tree) → find_record pid w.records ≡ None → option_and_then f (find_record pid w.records) ≡ None
      none f p = ap (option_and_then f) p

      at : (o : Option ProcessRecord) → find_record pid w.records ≡ o → tree_within (suc levels) w pid ≡ tree_from w (tree_within (suc levels) w) pid
      at None p =
          none (λ r. option_map (tree_with r (values_alone (outputs_of w pid))) (branches (tree_within levels w) pid w.links)) p
          ∙ sym (none (λ r. option_map (tree_with r (values_alone (outputs_of w pid))) (branches (tree_within (suc levels) w) pid w.links)) p)
      at (Some r) p =
          let low : 1 ≤ r.depth = (found_holds (Stands w) pid w.records r h.records p).not_below in
          let enough : 17 ≤ suc levels + r.depth = omega arith in
          stable (suc levels) pid r p enough

pub trees_unfold : TreesUnfold
trees_unfold w reached pid = unfolds_within w (reached_is_consistent w reached) 15 pid (omega arith)

-- ---- outputs and inputs

pub outputs_linked : OutputsAreLinked
outputs_linked w reached pid label e = outputs_told w.nodes w.links (reached_is_consistent w reached).links pid label e

pub inputs_linked : InputsAreLinked
inputs_linked w reached pid label e = inputs_told w.nodes w.links (reached_is_consistent w reached).links pid label e
