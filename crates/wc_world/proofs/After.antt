-- The lists of a world after changes.
use Rattle.std.proofs.Common.{◌≡◌, ℕ, Bool, true, false, List, [], ◌∷◌, ◌++◌, Some, None, refl, sym, ap, ◌∙◌, ⊎_elim, eq-eqb, true≢false}
use borrow.Author.Tests.{ne_eqb}
use Rattle.std.proofs.lemmas.Bool.Decides.{eqb_tells}
use Rattle.std.specs.Prelude.{if◌then◌else◌, ◌==◌, option_map}
use Rattle.std.proofs.lemmas.List.{append_assoc, append-nil}
use Rattle.wc_graph.specs.declared.node.NodeKind.TheVariants as node
use Rattle.wc_state.specs.declared.record.ProcessRecord.{ProcessRecord}
use Rattle.wc_world.specs.declared.change.Change.{Change}
use Rattle.wc_world.specs.declared.change.Change.TheVariants as change
use Rattle.wc_world.specs.World.{World}
use Rattle.wc_world.specs.Records.{find_record, at_process, process_node}
use Rattle.wc_world.specs.Applied.{after_change, changed}
use Rattle.wc_world.specs.After.{nodes_in}

-- ---- changes one after another

pub changed_append : (b : ℕ) (w : World) (xs ys : List Change) → changed b w (xs ++ ys) ≡ changed b (changed b w xs) ys
changed_append b w [] ys = refl
changed_append b w (x ∷ xs) ys = changed_append b (after_change b w x) xs ys

-- ---- lists

appended : {X : Type 0} (xs : List X) (y : X) (ys zs : List X) → zs ≡ (xs ++ y ∷ []) ++ ys → zs ≡ xs ++ y ∷ ys
appended xs y ys zs h = h ∙ append_assoc xs (y ∷ []) ys

pub changed_nodes : (b : ℕ) (w : World) (cs : List Change) → (changed b w cs).nodes ≡ w.nodes ++ nodes_in cs
changed_nodes b w [] = sym (append-nil w.nodes)
changed_nodes b w (change.Library l names ∷ cs) = changed_nodes b (after_change b w (change.Library l names)) cs
changed_nodes b w (change.Data v ∷ cs) = appended w.nodes (node.Data v) (nodes_in cs) _ (changed_nodes b (after_change b w (change.Data v)) cs)
changed_nodes b w (change.Process n ∷ cs) = appended w.nodes (process_node n.kind) (nodes_in cs) _ (changed_nodes b (after_change b w (change.Process n)) cs)
changed_nodes b w (change.Link l ∷ cs) = changed_nodes b (after_change b w (change.Link l)) cs
changed_nodes b w (change.Set s ∷ cs) = changed_nodes b (after_change b w (change.Set s)) cs
changed_nodes b w (change.Count n ∷ cs) = changed_nodes b (after_change b w (change.Count n)) cs
changed_nodes b w (change.Kept k ∷ cs) = changed_nodes b (after_change b w (change.Kept k)) cs

-- ---- records

pub same_number : (a b : ℕ) → a == b ≡ true → a ≡ b
same_number a b h = ⊎_elim (λ t. t.1) (λ f. absurd (true≢false (sym h ∙ f.0))) (eqb_tells a b)

turned : (a b : ℕ) → a == b ≡ b == a
turned a b = ⊎_elim (λ t. t.0 ∙ sym (eq-eqb b a (sym t.1))) (λ f. f.0 ∙ sym (ne_eqb b a (λ e. f.1 (sym e)))) (eqb_tells a b)

pub find_at : (p pid : ℕ) (f : ProcessRecord → ProcessRecord) (rs : List ProcessRecord) → ((r : ProcessRecord) → (f r).node ≡ r.node)
    → find_record pid (at_process p f rs) ≡ (if p == pid then option_map f (find_record pid rs) else find_record pid rs)
find_at p pid f [] keeps = by_test (p == pid)
  where
    by_test : (t : Bool) → None ≡ (if t then option_map f None else None)
    by_test true = refl
    by_test false = refl
find_at p pid f (q ∷ rs) keeps =
    ap (λ (n : ℕ). if n == pid then Some (if q.node == p then f q else q) else find_record pid (at_process p f rs)) (kept_node (q.node == p))
    ∙ at_head (q.node == p) (q.node == pid) (p == pid)
    (λ e. ap (λ (n : ℕ). n == p) (same_number q.node pid e) ∙ turned pid p) (find_at p pid f rs keeps)
  where
    kept_node : (t : Bool) → (if t then f q else q).node ≡ q.node
    kept_node true = keeps q
    kept_node false = refl

    at_head : (a e m : Bool) → (e ≡ true → a ≡ m) → find_record pid (at_process p f rs) ≡ (if m then option_map f (find_record pid rs) else find_record pid rs)
        → (if e then Some (if a then f q else q) else find_record pid (at_process p f rs))
        ≡ (if m then option_map f (if e then Some q else find_record pid rs) else (if e then Some q else find_record pid rs))
    at_head a false m h ih = ih
    at_head a true true h ih = ap (λ (t : Bool). Some (if t then f q else q)) (h refl)
    at_head a true false h ih = ap (λ (t : Bool). Some (if t then f q else q)) (h refl)
