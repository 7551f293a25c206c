-- A process that has ended keeps its recorded tree while another one ends.
use Rattle.std.proofs.Common.{◌≡◌, ◌≢◌, ℕ, ℤ, ◌+◌, true, false, Option, Some, None, length, get_or, inl, inr, refl, sym, ap, ◌∙◌}
use Rattle.std.specs.Prelude.{All, ◌==◌, ◌&&◌, option_map}
use Rattle.std.proofs.lemmas.Bool.{eq-eqb, cond-false, ne_eqb}
use Rattle.std.proofs.lemmas.List.Folds.{list_any_at}
use Rattle.wc_graph.specs.declared.link.Link.{Link}
use Rattle.wc_semantics.specs.declared.outcomes.Parsed.{Parsed}
use Rattle.wc_state.specs.declared.record.ProcessRecord.{ProcessRecord}
use Rattle.wc_world.specs.World.{World}
use Rattle.wc_world.specs.Consistent.{IsConsistent}
use Rattle.wc_world.specs.Records.{find_record, has_ended, has_called, is_call_from}
use Rattle.wc_world.specs.Trees.{recorded_tree}
use Rattle.wc_world.proofs.ReachedLists.{find_mapped, found_node, found_has, at_one, at_one_keeps}
use Rattle.wc_machine.specs.Sound.{CallsAreKept}
use Rattle.wc_machine.proofs.ContinuedEnds.{found_after}
use Rattle.wc_machine.proofs.CreatedOutputs.{creates_no_call}
use Rattle.wc_machine.proofs.EndedWorlds.{outputs_kept}
use Rattle.wc_machine.proofs.Endings.{creates, end_record, ended_world}
use Rattle.wc_machine.proofs.Frames.{no_call_from, branches_before}
use Rattle.wc_machine.proofs.Untouched.{AreUntouched, tree_stays}

-- no process of this number lives
abbrev IsOver : World → ℕ → Type 0
IsOver w pid = (q : ProcessRecord) → find_record pid w.records ≡ Some q → has_ended q.state ≡ true

-- a call leads to what was called
pub call_is_called : (w : World) (pid : ℕ) → All (λ l. is_call_from pid l ≡ true → has_called w.links pid l.target ≡ true) w.links
call_is_called w pid = λ i d lt called.
    let l : Link = get_or w.links i d in
    list_any_at (λ m. is_call_from pid m && (m.target == l.target)) w.links i d lt (λ j. called j && eq-eqb l.target l.target refl j)

module _ (w : World) (r : ProcessRecord) (p : Parsed) (source : Option ℕ) (code : Option ℤ) (c : IsConsistent w) (calls : All (CallsAreKept w) w.records)
    (found : find_record r.node w.records ≡ Some r) (live : has_ended r.state ≡ false) where
  differs : (pid : ℕ) → IsOver w pid → r.node ≢ pid
  differs pid over e = let ended : has_ended r.state ≡ true = over r (ap (λ (n : ℕ). find_record n w.records) (sym e) ∙ found) in absurd (cc (ended, live))

  found_same : (pid : ℕ) → IsOver w pid → find_record pid (ended_world w r p source code).records ≡ find_record pid w.records
  found_same pid over = at (find_record pid w.records) refl
    where
      at : (o : Option ProcessRecord) → find_record pid w.records ≡ o → find_record pid (ended_world w r p source code).records ≡ find_record pid w.records
      at None is =
          find_mapped (at_one r.node (end_record w r p source code)) (at_one_keeps (λ (x : ProcessRecord). x.node) (end_record w r p source code) (λ x. refl) r.node) pid w.records
          ∙ ap (option_map (at_one r.node (end_record w r p source code))) is ∙ sym is
      at (Some q) is =
          let ne : q.node ≢ r.node = λ e. differs pid over (sym e ∙ found_node pid w.records q is) in
          found_after w r p source code pid q is
          ∙ ap (λ (x : ProcessRecord). Some x) (cond-false (q.node == r.node) (end_record w r p source code q) q (ne_eqb q.node r.node ne)) ∙ sym is

  called_over : (pid : ℕ) (q : ProcessRecord) → IsOver w pid → find_record pid w.records ≡ Some q → All (λ l. is_call_from pid l ≡ true → IsOver w l.target) w.links
  called_over pid q over is = λ i d lt called x there.
      let l : Link = get_or w.links i d in
      let number : q.node ≡ pid = found_node pid w.records q is in
      let target : x.node ≡ l.target = found_node l.target w.records x there in
      let itself : find_record x.node w.records ≡ Some x = ap (λ (n : ℕ). find_record n w.records) target ∙ there in
      let reached : has_called w.links q.node x.node ≡ true = (λ i. has_called w.links (number i) (target i)) ∙ call_is_called w pid i d lt called in
      elim (found_has (CallsAreKept w) pid w.records q is calls x itself reached) [
        | inl h ↦ h
        | inr h ↦ let ended : has_ended q.state ≡ true = over q is in absurd (cc (ended, h.0))
      ]

  untouched : AreUntouched w (ended_world w r p source code) (IsOver w)
  untouched = record {
    found = found_same;
    keeps = λ pid q over is. record {
      outputs = outputs_kept w r p source code c pid (differs pid over);
      calls = λ tree.
          let new = creates (length w.nodes + 1) r.node p.outputs in
          branches_before tree pid w.links new (no_call_from pid new (creates_no_call (length w.nodes + 1) r.node p.outputs));
      below = called_over pid q over is;
    };
  }

  -- what has ended keeps its tree
  pub ended_tree_kept : (q : ProcessRecord) → find_record q.node w.records ≡ Some q → has_ended q.state ≡ true
      → recorded_tree (ended_world w r p source code) q.node ≡ recorded_tree w q.node
  ended_tree_kept q is over =
      tree_stays w (ended_world w r p source code) (IsOver w) untouched 16 q.node
      (λ x there. let same : Some q ≡ Some x = sym is ∙ there in let e : q ≡ x = cc in ap (λ (y : ProcessRecord). has_ended y.state) (sym e) ∙ over)
