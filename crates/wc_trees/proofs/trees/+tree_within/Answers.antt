use Rattle.std.proofs.Common.{◌≡◌, ◌∷◌, [], ◌++◌, Some, None, sym, ap, subst, ◌∙◌}
use Rattle.std.specs.Prelude.{List, ℕ, slice_get}
use Rattle.std.specs.Option.{option_map}
use Rattle.wc_graph.specs.declared.link.Link.{Link}
use Rattle.wc_graph.specs.Index.{source_of}
use Rattle.wc_world.specs.Linked.{upwards, of_node, call_in}
use Rattle.wc_world.specs.Trees.{Branch, branches, tree_within}
use Rattle.wc_trees.proofs.Linking.{branches_begin, branch_taken, branch_passed, branch_lacks}
use Rattle.wc_trees.proofs.trees.+tree_within.Goals as goal

pub branches-loop-place-init : goal.branches-loop-place-init
branches-loop-place-init t c =
    let w = c.args.world.now.world in
    let tree = tree_within c.args.levels w in
    let pid = c.args.pid in
    let items = c.in_ok-places.places.items in
    let links : c.graph.result.now.links ≡ w.links = c.graph.ensures.links.0 in
    let same : of_node source_of pid (upwards w.links items []) ≡ of_node source_of pid w.links
    = subst (λ (ls : List Link). of_node source_of pid (upwards ls items []) ≡ of_node source_of pid ls) links c.in_ok-places.ensures in
    ap (λ (xs : List Branch). option_map (λ (rest : List Branch). xs ++ rest) (branches tree pid (upwards w.links items []))) c.new-calls.ensures
    ∙ branches_begin tree pid (upwards w.links items []) w.links same

pub branches-returns-in_default-2 : goal.branches-returns-in_default-2
branches-returns-in_default-2 t c =
    let w = c.args.world.now.world in
    let tree = tree_within c.args.levels w in
    let pid = c.args.pid in
    let l = c.in-Some-call_at.link.now in
    let call : call_in pid (slice_get w.links c.in-Some.place) ≡ Some l
    = sym (subst (λ (ls : List Link). Some l ≡ call_in pid (slice_get ls c.in-Some.place)) c.graph-in-Some.ensures.links.0 c.in-Some-call_at.ensures) in
    sym (branch_lacks tree pid w.links c.loop-place.places.items c.pop.new.self.items c.in-Some.place c.in-Some.ensures.items c.loop-place.calls l call
    (sym c.in_ok-tree.ensures ∙ c.in_default-2.is))
    ∙ c.loop-place.invariant

pub branches-loop-place-preserved-in_ok-push : goal.branches-loop-place-preserved-in_ok-push
branches-loop-place-preserved-in_ok-push t c =
    let w = c.args.world.now.world in
    let tree = tree_within c.args.levels w in
    let pid = c.args.pid in
    let l = c.in-Some-call_at.link.now in
    let call : call_in pid (slice_get w.links c.in-Some.place) ≡ Some l
    = sym (subst (λ (ls : List Link). Some l ≡ call_in pid (slice_get ls c.in-Some.place)) c.graph-in-Some.ensures.links.0 c.in-Some-call_at.ensures) in
    branch_taken tree pid w.links c.loop-place.places.items c.pop.new.self.items c.in-Some.place c.in-Some.ensures.items c.loop-place.calls c.push.new.self l c.in-Some-2.tree call
    (sym c.in-Some-2.is ∙ c.in_ok-tree.ensures)
    (c.in_ok-push.ensures.ok ∙ ap (λ (label : List ℕ). c.loop-place.calls ++ (label, c.in-Some-2.tree) ∷ []) c.in_ok-copy.ensures)
    ∙ c.loop-place.invariant

pub branches-loop-place-preserved : goal.branches-loop-place-preserved
branches-loop-place-preserved t c =
    let w = c.args.world.now.world in
    let tree = tree_within c.args.levels w in
    let pid = c.args.pid in
    branch_passed tree pid w.links c.loop-place.places.items c.pop.new.self.items c.in-Some.place c.in-Some.ensures.items c.loop-place.calls
    (sym (subst (λ (ls : List Link). None ≡ call_in pid (slice_get ls c.in-Some.place)) c.graph-in-Some.ensures.links.0 c.in_default-call_at.ensures))
    ∙ c.loop-place.invariant
