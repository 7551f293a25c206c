use Rattle.std.proofs.Common.{◌≡◌, ℕ, ◌-◌, ◌<◌, ◌≤◌, List, length, refl, sym, ap, subst, ◌∙◌, arith}
use Rattle.std.specs.Prelude.{Some, slice_get}
use Rattle.std.proofs.lemmas.Option.{slice_get_read}
use Rattle.wc_graph.specs.declared.link.Link.{Link}
use Rattle.wc_graph.specs.Index.{Skips}
use Rattle.wc_graph.specs.Labels.{side}
use Rattle.wc_graph.proofs.Labelling.{has_step}
use Rattle.wc_graph.proofs.busy.names_of.Goals as goal

pub loop-at-preserved : goal.loop-at-preserved
loop-at-preserved c =
    let links = c.as_slice-links.result.now in
    let top = c.loop-at.at in
    let link = c.index-links-at.result in
    let same : links ≡ c.args.graph.now.links = c.as_slice-links.ensures ∙ ap (λ (r : List Link × ℕ). r.0) c.links.ensures.value in
    let few : top ≤ length links = c.loop-at.invariant.0 in
    let some : 0 < top = c.loop-at-test.true in
    let here : slice_get links (top - 1) ≡ Some link = slice_get_read links (length links) (top - 1) link refl (omega arith) c.index-links-at.is in
    let skips : Skips (side c.args.end) links c.args.node (top - 1) c.before_at-at.result
    = subst (λ (ls : List Link). Skips (side c.args.end) ls c.args.node (top - 1) c.before_at-at.result) (sym same) c.before_at-at.ensures in (
      omega (arith, skips.within),
      has_step c.args.end links c.args.node top (top - 1) c.before_at-at.result c.loop-at.names c.put_link.new.names link (omega arith) here c.loop-at.invariant.1
          c.in_ok-put_link.ensures.kept c.in_ok-put_link.ensures.put skips,
    )
