-- The recorded tree of what a process has called doesn't hang on one level more.
use Rattle.std.proofs.Common.{◌≡◌, ℕ, zero, suc, ◌+◌, ◌≤◌, true, Option, Some, List, get_or, ap, arith}
use Rattle.std.specs.Prelude.{All, option_map, option_and_then}
use Rattle.wc_graph.specs.declared.link.Link.{Link}
use Rattle.wc_state.specs.declared.record.ProcessRecord.{ProcessRecord}
use Rattle.wc_world.specs.World.{World}
use Rattle.wc_world.specs.Consistent.{IsConsistent, Stands}
use Rattle.wc_world.specs.Records.{find_record, is_call_from}
use Rattle.wc_world.specs.Trees.{Branch, outputs_of, tree_with, tree_within, values_alone}
use Rattle.wc_world.proofs.FoundRecords.{IsDeeper, call_is_deeper, found_holds}
use Rattle.wc_machine.proofs.Frames.{branches_by}

module _ (w : World) (h : IsConsistent w) where
  abbrev IsStable : ℕ → Type 0
  IsStable levels = (pid : ℕ) (r : ProcessRecord) → find_record pid w.records ≡ Some r → 17 ≤ levels + r.depth → tree_within levels w pid ≡ tree_within (suc levels) w pid

  -- so many levels are enough for a process of its depth, and one more changes nothing
  stable : (levels : ℕ) → IsStable levels
  stable zero pid r e d = let above : r.depth ≤ 16 = (found_holds (Stands w) pid w.records r h.records e).not_above in absurd (omega (arith, d, above))
  stable (suc levels) pid r e d =
      let below : All (λ l. is_call_from pid l ≡ true → tree_within levels w l.target ≡ tree_within (suc levels) w l.target) w.links =
      (λ i x lt called.
      let l : Link = get_or w.links i x in
      let deeper : IsDeeper r (find_record l.target w.records) = call_is_deeper w.records l pid r e called (h.calls i x lt) in
      let depth : deeper.0.depth ≡ suc r.depth = deeper.2 in
      let enough : 17 ≤ levels + deeper.0.depth = omega (arith, d, depth) in
      stable levels l.target deeper.0 deeper.1 enough) in
      ap (λ (bs : Option (List Branch)). option_and_then (λ x. option_map (tree_with x (values_alone (outputs_of w pid))) bs) (find_record pid w.records))
      (branches_by (tree_within levels w) (tree_within (suc levels) w) pid w.links below)

  -- the tree of what a process has called
  pub called_stable : (r : ProcessRecord) → find_record r.node w.records ≡ Some r
      → All (λ l. is_call_from r.node l ≡ true → tree_within 15 w l.target ≡ tree_within 16 w l.target) w.links
  called_stable r found = λ i x lt called.
      let l : Link = get_or w.links i x in
      let deeper : IsDeeper r (find_record l.target w.records) = call_is_deeper w.records l r.node r found called (h.calls i x lt) in
      let depth : deeper.0.depth ≡ suc r.depth = deeper.2 in
      let low : 1 ≤ r.depth = (found_holds (Stands w) r.node w.records r h.records found).not_below in
      stable 15 l.target deeper.0 deeper.1 (omega (arith, depth, low))
