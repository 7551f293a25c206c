-- Ended work chains that are recorded otherwise than they mean.
use Rattle.std.proofs.Common.{◌≡◌, ℕ, ℤ, [], ◌∷◌, Option, Some, refl, sym, ap, subst, ◌∙◌, arith}
use Rattle.std.specs.Prelude.{pos, codes}
use Rattle.wc_value.specs.declared.process.ProcessState.TheVariants as state
use Rattle.wc_value.specs.declared.process.Tree.{Tree, Tree-F, out-Tree, out-roll-Tree}
use Rattle.wc_value.specs.declared.value.Value.{out-Value}
use Rattle.wc_value.specs.declared.value.Value.TheVariants as value
use Rattle.wc_semantics.specs.declared.progress.Answer.{Answer}
use Rattle.wc_semantics.specs.declared.progress.Answer.TheVariants.{Gave, TooLittle}
use Rattle.wc_semantics.specs.declared.progress.Replayed.{Replayed}
use Rattle.wc_world.specs.Trees.{recorded_tree}
use Rattle.wc_machine.specs.Paths.{kills}
use Rattle.wc_machine.specs.Rest.{GivesTree, meant}
use Rattle.wc_machine.specs.Sound.{IsSound}
use Rattle.wc_machine.specs.Results.{result_of, table_of}
use Rattle.wc_soundness.proofs.FoundResults.{its_table_agrees}
use Rattle.wc_soundness.specs.FanWorlds as fans
use Rattle.wc_soundness.specs.FanWorlds.{HasBoth}
use Rattle.wc_soundness.specs.WrongWorlds as wrong
use Rattle.wc_soundness.specs.Words.{tree}
use Rattle.wc_soundness.proofs.Numbers.{number_at}
use Rattle.wc_soundness.proofs.Meant.{whole_meant, little_meant}

exchanged_rows : HasBoth (table_of wrong.exchanged 2)
unfolding result_of out-Value denote.Hole.Carrier.out
exchanged_rows = record { first = refl; second = refl }

little_rows : HasBoth (table_of wrong.little_fuel 2)
unfolding result_of out-Value denote.Hole.Carrier.out
little_rows = record { first = refl; second = refl }

-- ---- too little fuel

no_tree : (t : Tree) → GivesTree (Some TooLittle) t → ⊥
no_tree t g = let e : Some TooLittle ≡ Some (Gave g.0 g.1) = g.2 in absurd (cc e)

little_is : meant wrong.little_fuel wrong.little_chain (table_of wrong.little_fuel 2) (kills wrong.little_fuel 2) 1 ≡ Some TooLittle
little_is = ap Some (little_meant (table_of wrong.little_fuel 2) little_rows (kills wrong.little_fuel 2) (record { chain = refl; first = refl; second = refl }))

pub little_refused : IsSound wrong.little_fuel → ⊥
little_refused s =
    let t = s.ended 0 wrong.little_chain (omega arith) refl (table_of wrong.little_fuel 2) (its_table_agrees wrong.little_fuel s 2) in
    no_tree t.0 (subst (λ (a : Option Answer). GivesTree a t.0) little_is t.2)

-- ---- other outputs

-- the number under `first` that a tree has
abbrev first_of : Tree → ℤ
first_of t = number_at (codes "first") (out-Tree t).outputs

-- six came of the second job
abbrev exchanged_tree : Tree
exchanged_tree = tree (codes "fan") (state.Finished 0) ((codes "first", value.Int (pos 6)) ∷ ((codes "last", value.Int (pos 4)) ∷ []))
    ((fans.one, fans.job_tree 52 (pos 4)) ∷ ((fans.two, fans.job_tree 54 (pos 6)) ∷ []))

six_recorded : first_of exchanged_tree ≡ pos 6
unfolding number_at out-Value denote.Hole.Carrier.out
six_recorded = ap (λ (f : Tree-F Tree). number_at (codes "first") f.outputs) (out-roll-Tree (record {
  definition = codes "fan";
  state = state.Finished 0;
  outputs = (codes "first", value.Int (pos 6)) ∷ ((codes "last", value.Int (pos 4)) ∷ []);
  calls = (fans.one, fans.job_tree 52 (pos 4)) ∷ ((fans.two, fans.job_tree 54 (pos 6)) ∷ []);
}))

four_meant : first_of fans.fan_tree ≡ pos 4
unfolding number_at out-Value denote.Hole.Carrier.out
four_meant = ap (λ (f : Tree-F Tree). number_at (codes "first") f.outputs) (out-roll-Tree (record {
  definition = codes "fan";
  state = state.Finished 0;
  outputs = (codes "first", value.Int (pos 4)) ∷ ((codes "last", value.Int (pos 6)) ∷ []);
  calls = (fans.one, fans.job_tree 52 (pos 4)) ∷ ((fans.two, fans.job_tree 54 (pos 6)) ∷ []);
}))

exchanged_is : meant wrong.exchanged fans.fan_ended (table_of wrong.exchanged 2) (kills wrong.exchanged 2) 2 ≡ Some (Gave fans.fan_replayed 0)
exchanged_is = ap Some (whole_meant (table_of wrong.exchanged 2) exchanged_rows (kills wrong.exchanged 2) (record { chain = refl; first = refl; second = refl }))

that_tree : (t : Tree) (r : Replayed) (n : ℕ) → GivesTree (Some (Gave r n)) t → r.tree ≡ t
that_tree t r n g =
    let e : Some (Gave r n) ≡ Some (Gave g.0 g.1) = g.2 in
    let same : r ≡ g.0 = cc in
    ap (λ (x : Replayed). x.tree) same ∙ g.3

exchanged_recorded : recorded_tree wrong.exchanged 2 ≡ Some exchanged_tree
exchanged_recorded = refl

pub exchanged_refused : IsSound wrong.exchanged → ⊥
exchanged_refused s =
    let t = s.ended 0 fans.fan_ended (omega arith) refl (table_of wrong.exchanged 2) (its_table_agrees wrong.exchanged s 2) in
    let meant_tree : fans.fan_tree ≡ t.0 = that_tree t.0 fans.fan_replayed 0 (subst (λ (a : Option Answer). GivesTree a t.0) exchanged_is t.2) in
    let recorded : Some exchanged_tree ≡ Some t.0 = sym exchanged_recorded ∙ t.1 in
    let same : exchanged_tree ≡ t.0 = cc recorded in
    let numbers : pos 4 ≡ pos 6 = sym four_meant ∙ ap first_of (meant_tree ∙ sym same) ∙ six_recorded in
    absurd (cc numbers)
