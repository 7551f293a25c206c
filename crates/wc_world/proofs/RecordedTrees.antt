-- The tree of a process is there.
use Rattle.std.proofs.Common.{◌≡◌, ℕ, zero, suc, ◌+◌, ◌≤◌, Bool, true, false, List, [], ◌∷◌, Option, Some, None, refl, ap, sym, arith}
use Rattle.std.specs.Prelude.{if◌then◌else◌, is_some, All}
use Rattle.std.proofs.lemmas.List.Elements.{All-head, All-tail, All-weaker}
use Rattle.wc_value.specs.declared.process.Tree.{Tree}
use Rattle.wc_graph.specs.Rules.{IsCall}
use Rattle.wc_graph.specs.declared.link.Link.{Link}
use Rattle.wc_state.specs.declared.record.ProcessRecord.{ProcessRecord}
use Rattle.wc_world.specs.World.{World}
use Rattle.wc_world.specs.Records.{find_record, is_call_from}
use Rattle.wc_world.specs.Fits.{call_fits}
use Rattle.wc_world.specs.Consistent.{Stands, IsConsistent}
use Rattle.wc_world.specs.Trees.{Branch, and_branch, branches, tree_with, tree_within, values_alone, outputs_of}
use Rattle.wc_world.proofs.FoundRecords.{found_holds, IsDeeper, call_is_deeper, made_there}

and_there : (t : Option Tree) (label : List ℕ) (rest : Option (List Branch)) → is_some t ≡ true → is_some rest ≡ true → is_some (and_branch t label rest) ≡ true
and_there None label rest p q = p
and_there (Some t) label None p q = q
and_there (Some t) label (Some rest) p q = refl

-- each process that this one called has a tree
abbrev pub HasTree : (ℕ → Option Tree) → ℕ → Link → Type 0
HasTree tree pid l = is_call_from pid l ≡ true → is_some (tree l.target) ≡ true

branches_there : (tree : ℕ → Option Tree) (pid : ℕ) (ls : List Link) → All (HasTree tree pid) ls → is_some (branches tree pid ls) ≡ true
branches_there tree pid [] a = refl
branches_there tree pid (l ∷ ls) a =
    at (is_call_from pid l) (All-head (HasTree tree pid) l ls a) (branches_there tree pid ls (All-tail (HasTree tree pid) l ls a))
  where
    at : (b : Bool) → (b ≡ true → is_some (tree l.target) ≡ true) → is_some (branches tree pid ls) ≡ true
        → is_some (if b then and_branch (tree l.target) l.label (branches tree pid ls) else branches tree pid ls) ≡ true
    at true p q = and_there (tree l.target) l.label (branches tree pid ls) (p refl) q
    at false p q = q

-- ---- the tree

module _ (w : World) (h : IsConsistent w) where
  -- a process of depth d has a tree within so many levels
  abbrev pub IsWithin : ℕ → Type 0
  IsWithin levels = (pid : ℕ) (r : ProcessRecord) → find_record pid w.records ≡ Some r → 17 ≤ levels + r.depth → is_some (tree_within levels w pid) ≡ true

  called_there : (levels pid : ℕ) (r : ProcessRecord) → find_record pid w.records ≡ Some r → 17 ≤ suc levels + r.depth → IsWithin levels
      → All (HasTree (tree_within levels w) pid) w.links
  called_there levels pid r e d rest = All-weaker Fits (HasTree (tree_within levels w) pid) below w.links h.calls
    where
      Fits : Link → Type 0
      Fits l = IsCall l.link → call_fits w.records l ≡ true

      below : (l : Link) → (IsCall l.link → call_fits w.records l ≡ true) → HasTree (tree_within levels w) pid l
      below l fits c =
          let deeper : IsDeeper r (find_record l.target w.records) = call_is_deeper w.records l pid r e c fits in
          let depth : deeper.0.depth ≡ suc r.depth = deeper.2 in
          let enough : 17 ≤ levels + deeper.0.depth = omega (arith, d, depth) in
          rest l.target deeper.0 deeper.1 enough

  tree_there : (levels : ℕ) → IsWithin levels
  tree_there zero pid r e d = let above : r.depth ≤ 16 = (found_holds (Stands w) pid w.records r h.records e).not_above in absurd (omega (arith, d, above))
  tree_there (suc levels) pid r e d =
      made_there (λ x. tree_with x (values_alone (outputs_of w pid))) (find_record pid w.records) r (branches (tree_within levels w) pid w.links) e
      (branches_there (tree_within levels w) pid w.links (called_there levels pid r e d (tree_there levels)))

  -- only a process that isn't there has no tree
  pub no_tree : (levels pid : ℕ) → 16 ≤ levels → None ≡ tree_within levels w pid → find_record pid w.records ≡ None
  no_tree levels pid d e = at (find_record pid w.records) refl
    where
      at : (o : Option ProcessRecord) → find_record pid w.records ≡ o → o ≡ None
      at None p = refl
      at (Some r) p =
          let low : 1 ≤ r.depth = (found_holds (Stands w) pid w.records r h.records p).not_below in
          let enough : 17 ≤ levels + r.depth = omega arith in
          let there : is_some (tree_within levels w pid) ≡ true = tree_there levels pid r p enough in
          let gone : is_some (tree_within levels w pid) ≡ false = ap is_some (sym e) in
          absurd (cc)
