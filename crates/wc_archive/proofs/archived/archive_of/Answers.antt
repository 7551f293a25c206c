use Rattle.std.proofs.Common.{◌≡◌, List, ℕ, ◌+◌, ◌≤◌, length, map, slice_index, refl, ap, ◌∙◌, arith}
use Rattle.std.specs.Prelude.{filter}
use Rattle.wc_graph.specs.declared.link.Link.{Link}
use Rattle.wc_subworlds.specs.Parts.{placed}
use Rattle.wc_archive.specs.Marks.{is_marked_link}
use Rattle.wc_archive.proofs.Exporting.{archive_is}
use Rattle.wc_archive.proofs.archived.archive_of.Goals as goal

pub archived_nodes-requires-clause-few : goal.archived_nodes-requires-clause-few
archived_nodes-requires-clause-few c =
    let w = c.args.world.now.world in
    let few : length w.nodes ≤ 8000000 = (c.reached_worlds_are_consistent.ensures w c.graph-graph.ensures.reached).few in
    let size : length c.args.marks.now ≡ length w.nodes + 1 = c.requires.marks.size in
    omega (arith, few, size)

pub returns : goal.returns
returns c =
    let w = c.args.world.now.world in
    let root = c.args.root.now in
    let links : c.as_slice.result.now ≡ w.links = c.as_slice.ensures ∙ ap (λ (p : List Link × ℕ). p.0) c.links.ensures.value ∙ c.graph-graph.ensures.links.0 in (
      c.in_ok-library.library,
      c.in_ok-library.ensures,
      archive_is w (c.reached_worlds_are_consistent.ensures w c.graph-graph.ensures.reached) root.node root c.requires.found c.in_ok-library.library
          (record { library = c.in_ok-library.library; links = c.in_ok-links.links; nodes = c.in_ok-nodes.nodes }) c.args.below.now c.args.marks.now c.args.numbers.now
          c.requires.below c.requires.marks c.requires.numbers refl
          (c.in_ok-links.ensures ∙ ap (λ (ls : List Link). map (placed (slice_index c.args.numbers.now)) (filter (is_marked_link c.args.below.now) ls)) links)
          c.in_ok-nodes.ensures,
    )
