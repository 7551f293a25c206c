use Rattle.std.proofs.Common.{◌≡◌, ℕ, List, length, ap, ◌∙◌, arith}
use Rattle.std.specs.Prelude.{flat_map}
use Rattle.wc_value.specs.Spelling.{pair_of}
use Rattle.wc_graph.specs.declared.link.Link.{Link}
use Rattle.wc_graph.specs.declared.node.NodeKind.{NodeKind}
use Rattle.wc_keys.proofs.Added.{adds_as}
use Rattle.wc_keys.specs.Ports.{plain_inputs, links_in, link_bytes}
use Rattle.wc_keys.proofs.Ports.{plain_few}
use Rattle.wc_keys.proofs.LinkMaps.{links_counted, links_spelled}
use Rattle.wc_keys.proofs.TextDigests.{parts_digested}
use Rattle.wc_keys.proofs.digests.ordered_digest.Goals as goal

pub put_count-requires : goal.put_count-requires
put_count-requires c =
    let graph = c.args.graph.now in
    omega (
      arith,
      c.len.ensures.len,
      links_counted graph.nodes graph.links c.links.ensures.correct c.args.pid c.in_ok-inputs.inputs c.in_ok-inputs.ensures,
      plain_few graph.nodes c.args.pid graph.links,
      c.len-few.ensures.value,
      c.len-few.ensures.bound,
      ap (λ (p : List Link × ℕ). length p.0) c.links.ensures.value,
    )

pub returns : goal.returns
returns c =
    let graph = c.args.graph.now in
    let inputs = plain_inputs graph.nodes c.args.pid graph.links in
    let m = c.in_ok-inputs.inputs in
    let same : c.as_slice.result.now ≡ graph.nodes = c.as_slice.ensures ∙ ap (λ (p : List NodeKind × ℕ). p.0) c.nodes.ensures.value in
    let bytes : flat_map (link_bytes c.as_slice.result.now) (links_in m) ≡ flat_map pair_of inputs
    = ap (λ (nodes : List NodeKind). flat_map (link_bytes nodes) (links_in m)) same ∙ links_spelled graph.nodes graph.links c.links.ensures.correct c.args.pid m c.in_ok-inputs.ensures in
    parts_digested inputs c.len.result c.args.hasher c.put_count.new.hasher c.put_links.new.hasher c.finish.result
    (c.len.ensures.len ∙ links_counted graph.nodes graph.links c.links.ensures.correct c.args.pid m c.in_ok-inputs.ensures)
    c.put_count.ensures
    (adds_as c.put_count.new.hasher c.put_links.new.hasher (flat_map (link_bytes c.as_slice.result.now) (links_in m)) (flat_map pair_of inputs) bytes c.put_links.ensures)
    c.finish.ensures
