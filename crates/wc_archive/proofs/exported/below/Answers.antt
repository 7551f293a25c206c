use Rattle.std.proofs.Common.{◌≡◌, List, ℕ, ◌+◌, ◌<◌, ◌≤◌, length, refl, sym, ap, subst, ◌∙◌, arith}
use Rattle.std.specs.Prelude.{All}
use Rattle.wc_graph.specs.Reached.{AreExactly, IsNode}
use Rattle.wc_graph.specs.Walks.{Leads, Reaches}
use Rattle.wc_graph.specs.declared.link.Link.{Link}
use Rattle.wc_graph.specs.declared.node.NodeKind.{NodeKind}
use Rattle.wc_archive.specs.Marks.{call_types}
use Rattle.wc_archive.proofs.Exporting.{below_are, root_there}
use Rattle.wc_archive.proofs.Marking.{ids_within, root_size, root_within}
use Rattle.wc_archive.proofs.exported.below.Goals as goal

pub called_below-requires : goal.called_below-requires
called_below-requires c =
    let w = c.args.world.now.world in
    subst (λ (ns : List NodeKind). IsNode ns c.args.root) (sym c.graph-graph.ensures.nodes.0)
    (root_there w (c.reached_worlds_are_consistent.ensures w c.graph-graph.ensures.reached) c.args.root c.requires)

pub mark-requires : goal.mark-requires
mark-requires c =
    let w = c.args.world.now.world in
    let there : IsNode w.nodes c.args.root = root_there w (c.reached_worlds_are_consistent.ensures w c.graph-graph.ensures.reached) c.args.root c.requires in
    let le : c.args.root ≤ length w.nodes = there.1 in
    let count : c.len.result ≡ length w.nodes = c.len.ensures.value ∙ ap (λ (p : List NodeKind × ℕ). length p.0) c.nodes.ensures.value ∙ ap length c.graph-graph.ensures.nodes.0 in
    root_within (c.len.result + 1) c.args.root c.in_ok-marks.marks.items c.in_ok-marks.ensures (omega (arith, le, count))

pub mark_each-requires : goal.mark_each-requires
mark_each-requires c =
    let w = c.args.world.now.world in
    let consistent = c.reached_worlds_are_consistent.ensures w c.graph-graph.ensures.reached in
    let count : c.len.result ≡ length w.nodes = c.len.ensures.value ∙ ap (λ (p : List NodeKind × ℕ). length p.0) c.nodes.ensures.value ∙ ap length c.graph-graph.ensures.nodes.0 in
    let are : AreExactly (Reaches (Leads call_types w.links) c.args.root) c.in_ok-ids.ids
    = subst (λ (ls : List Link). AreExactly (Reaches (Leads call_types ls) c.args.root) c.in_ok-ids.ids) c.graph-graph.ensures.links.0 c.in_ok-ids.ensures in
    let size : length c.mark.new.marks.items ≡ length w.nodes + 1
    = root_size (c.len.result + 1) c.args.root c.in_ok-marks.marks.items c.mark.new.marks.items c.mark.new.marks.items c.in_ok-marks.ensures c.mark.ensures refl ∙ ap (λ (n : ℕ). n + 1) count in
    subst (λ (ids : List ℕ). All (λ id. id < length c.mark.new.marks.items) ids) (sym c.as_slice.ensures)
    (subst (λ (n : ℕ). All (λ id. id < n) c.in_ok-ids.ids) (sym size) (ids_within w.nodes w.links call_types c.args.root c.in_ok-ids.ids consistent.links are))

pub returns : goal.returns
returns c =
    let w = c.args.world.now.world in
    let consistent = c.reached_worlds_are_consistent.ensures w c.graph-graph.ensures.reached in
    let count : c.len.result ≡ length w.nodes = c.len.ensures.value ∙ ap (λ (p : List NodeKind × ℕ). length p.0) c.nodes.ensures.value ∙ ap length c.graph-graph.ensures.nodes.0 in
    let are : AreExactly (Reaches (Leads call_types w.links) c.args.root) c.as_slice.result.now
    = subst (λ (ls : List Link). AreExactly (Reaches (Leads call_types ls) c.args.root) c.as_slice.result.now) c.graph-graph.ensures.links.0
    (subst (λ (ids : List ℕ). AreExactly (Reaches (Leads call_types c.graph-graph.result.now.links) c.args.root) ids) (sym c.as_slice.ensures) c.in_ok-ids.ensures) in
    below_are w consistent c.args.root c.requires (c.len.result + 1) c.in_ok-marks.marks.items c.mark.new.marks.items c.mark_each.new.marks.items c.as_slice.result.now
    (ap (λ (n : ℕ). n + 1) count) c.in_ok-marks.ensures c.mark.ensures are c.mark_each.ensures.size c.mark_each.ensures.marks
