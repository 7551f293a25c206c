-- How many nodes and batches a world has after an event.
use Rattle.std.proofs.Common.{◌≡◌, ℕ, ◌+◌, List, [], ◌∷◌, ◌++◌, length, refl, ap, ◌∙◌}
use Rattle.std.proofs.lemmas.List.{length-append}
use Rattle.wc_world.specs.declared.change.Change.{Change}
use Rattle.wc_world.specs.declared.change.Change.TheVariants as change
use Rattle.wc_world.specs.World.{World}
use Rattle.wc_world.specs.Applied.{begun, after_change, changed, applied}
use Rattle.wc_world.specs.After.{nodes_in}
use Rattle.wc_world.proofs.After.{changed_nodes}

-- none of these changes says how many batches there were
abbrev pub HasNoCount : List Change → Type 0
HasNoCount [] = Unit {0}
HasNoCount (change.Library l names ∷ cs) = HasNoCount cs
HasNoCount (change.Data v ∷ cs) = HasNoCount cs
HasNoCount (change.Process n ∷ cs) = HasNoCount cs
HasNoCount (change.Link l ∷ cs) = HasNoCount cs
HasNoCount (change.Set s ∷ cs) = HasNoCount cs
HasNoCount (change.Count n ∷ cs) = ⊥
HasNoCount (change.Kept k ∷ cs) = HasNoCount cs

batches_kept : (b : ℕ) (w : World) (cs : List Change) → HasNoCount cs → (changed b w cs).batches ≡ w.batches
batches_kept b w [] h = refl
batches_kept b w (change.Library l names ∷ cs) h = batches_kept b (after_change b w (change.Library l names)) cs h
batches_kept b w (change.Data v ∷ cs) h = batches_kept b (after_change b w (change.Data v)) cs h
batches_kept b w (change.Process n ∷ cs) h = batches_kept b (after_change b w (change.Process n)) cs h
batches_kept b w (change.Link l ∷ cs) h = batches_kept b (after_change b w (change.Link l)) cs h
batches_kept b w (change.Set s ∷ cs) h = batches_kept b (after_change b w (change.Set s)) cs h
batches_kept b w (change.Count n ∷ cs) h = absurd h
batches_kept b w (change.Kept k ∷ cs) h = batches_kept b (after_change b w (change.Kept k)) cs h

-- one batch more
pub one_batch : (w : World) (cs : List Change) → HasNoCount cs → (applied w cs).batches ≡ w.batches + 1
one_batch w cs h = batches_kept (w.batches + 1) (begun w) cs h

-- two lists one after the other
pub no_count_both : (cs ds : List Change) → HasNoCount cs → HasNoCount ds → HasNoCount (cs ++ ds)
no_count_both [] ds h k = k
no_count_both (change.Library l names ∷ cs) ds h k = no_count_both cs ds h k
no_count_both (change.Data v ∷ cs) ds h k = no_count_both cs ds h k
no_count_both (change.Process n ∷ cs) ds h k = no_count_both cs ds h k
no_count_both (change.Link l ∷ cs) ds h k = no_count_both cs ds h k
no_count_both (change.Set s ∷ cs) ds h k = no_count_both cs ds h k
no_count_both (change.Count n ∷ cs) ds h k = absurd h
no_count_both (change.Kept p ∷ cs) ds h k = no_count_both cs ds h k

-- and as many nodes more as are added
pub nodes_more : (w : World) (cs : List Change) → length (applied w cs).nodes ≡ length w.nodes + length (nodes_in cs)
nodes_more w cs = ap length (changed_nodes (w.batches + 1) (begun w) cs) ∙ length-append w.nodes (nodes_in cs)
