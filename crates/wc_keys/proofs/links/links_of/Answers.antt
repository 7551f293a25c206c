use Rattle.std.proofs.Common.{◌≡◌, ℕ, ◌-◌, List, length, map, sym, ap, subst, ◌∙◌, arith}
use Rattle.wc_graph.specs.Index.{Skips, target_of}
use Rattle.wc_graph.specs.declared.link.Link.{Link}
use Rattle.wc_keys.proofs.LinkMaps.{shown, links_first, links_next}
use Rattle.wc_keys.specs.Ports.{by_port}
use Rattle.wc_keys.proofs.links.links_of.Goals as goal

pub loop-at-init : goal.loop-at-init
loop-at-init c =
    let nodes = c.as_slice-nodes.result.now in
    let links = c.as_slice-links.result.now in
    let at = c.last_into-at.result in
    let same : links ≡ c.args.graph.now.links = c.as_slice-links.ensures ∙ ap (λ (p : List Link × ℕ). p.0) c.links.ensures.value in
    let skips : Skips target_of links c.args.pid (length links) at = subst (λ (ls : List Link). Skips target_of ls c.args.pid (length ls) at) (sym same) c.last_into-at.ensures in (
      skips.within,
      ap (map shown) c.new-inputs.ensures.empty ∙ sym (links_first nodes c.args.pid links at skips),
    )

pub loop-at-preserved : goal.loop-at-preserved
loop-at-preserved c =
    let nodes = c.as_slice-nodes.result.now in
    let links = c.as_slice-links.result.now in
    let pid = c.args.pid in
    let at = c.loop-at.at in
    let next = c.before_into-at.result in
    let some = c.loop-at-test.true in
    let few = c.loop-at.invariant.0 in
    let same : links ≡ c.args.graph.now.links = c.as_slice-links.ensures ∙ ap (λ (p : List Link × ℕ). p.0) c.links.ensures.value in
    let skips : Skips target_of links pid (at - 1) next = subst (λ (ls : List Link). Skips target_of ls pid (at - 1) next) (sym same) c.before_into-at.ensures in (
      omega (arith, skips.within, few),
      links_next nodes pid links at next c.index-links-at.result some few c.index-links-at.is skips (by_port c.loop-at.inputs) (by_port c.put_link.new.inputs) c.loop-at.invariant.1 c.in_ok-put_link.ensures,
    )
