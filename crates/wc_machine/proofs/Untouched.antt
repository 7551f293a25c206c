-- What keeps its recorded tree from one world to another.
use Rattle.std.proofs.Common.{◌≡◌, ℕ, zero, suc, true, Option, Some, None, refl, ap, ◌∙◌}
use Rattle.std.specs.Prelude.{All, option_map, option_and_then}
use Rattle.std.proofs.lemmas.List.Elements.{All-weaker}
use Rattle.wc_value.specs.declared.process.Tree.{Tree}
use Rattle.wc_state.specs.declared.record.ProcessRecord.{ProcessRecord}
use Rattle.wc_world.specs.World.{World}
use Rattle.wc_world.specs.Records.{find_record, is_call_from}
use Rattle.wc_world.specs.Trees.{branches, tree_with, tree_within}
use Rattle.wc_machine.specs.Recorded.{recorded_outputs}
use Rattle.wc_machine.proofs.Frames.{branches_by}

-- A process has the same outputs and calls in the second world, and what it called is of these processes too.
pub record KeepsTree (v w : World) (P : ℕ → Type 0) (pid : ℕ) : Type 0 where
  pub outputs : recorded_outputs w pid ≡ recorded_outputs v pid
  pub calls : (tree : ℕ → Option Tree) → branches tree pid w.links ≡ branches tree pid v.links
  pub below : All (λ l. is_call_from pid l ≡ true → P l.target) v.links

-- Each of these processes has the same record in both worlds, and where it has one, it keeps its tree.
pub record AreUntouched (v w : World) (P : ℕ → Type 0) : Type 0 where
  pub found : (pid : ℕ) → P pid → find_record pid w.records ≡ find_record pid v.records
  pub keeps : (pid : ℕ) (r : ProcessRecord) → P pid → find_record pid v.records ≡ Some r → KeepsTree v w P pid

-- the tree of a process in a world, with its outputs and the trees of what it called
abbrev tree_by : World → ℕ → (ℕ → Option Tree) → Option ProcessRecord → Option Tree
tree_by w pid tree = option_and_then (λ r. option_map (tree_with r (recorded_outputs w pid)) (branches tree pid w.links))

tree_step : (v w : World) (pid : ℕ) (t u : ℕ → Option Tree) (o : Option ProcessRecord)
    → ((r : ProcessRecord) → o ≡ Some r → (recorded_outputs w pid ≡ recorded_outputs v pid) × (branches t pid w.links ≡ branches u pid v.links))
    → tree_by w pid t o ≡ tree_by v pid u o
tree_step v w pid t u None same = refl
tree_step v w pid t u (Some r) same = let s = same r refl in λ i. option_map (tree_with r (s.0 i)) (s.1 i)

module _ (v w : World) (P : ℕ → Type 0) (untouched : AreUntouched v w P) where
  pub tree_stays : (levels pid : ℕ) → P pid → tree_within levels w pid ≡ tree_within levels v pid
  tree_stays zero pid p = refl
  tree_stays (suc levels) pid p =
      ap (tree_by w pid (tree_within levels w)) (untouched.found pid p)
      ∙ tree_step v w pid (tree_within levels w) (tree_within levels v) (find_record pid v.records)
      (λ r is.
      let k : KeepsTree v w P pid = untouched.keeps pid r p is in (
        k.outputs,
        k.calls (tree_within levels w)
            ∙ branches_by (tree_within levels w) (tree_within levels v) pid v.links
            (All-weaker (λ l. is_call_from pid l ≡ true → P l.target) (λ l. is_call_from pid l ≡ true → tree_within levels w l.target ≡ tree_within levels v l.target)
            (λ l below called. tree_stays levels l.target (below called)) v.links k.below),
      ))
