use Rattle.std.proofs.Common.{◌≡◌, List, ℕ, ◌+◌, ◌<◌, ◌||◌, length, sym, ap, subst, ◌∙◌}
use Rattle.std.specs.Prelude.{All}
use Rattle.std.specs.List.{list_any}
use Rattle.wc_graph.specs.declared.link.Link.{Link}
use Rattle.wc_archive.specs.Marks.{ends_at, is_marked}
use Rattle.wc_archive.proofs.Below.{closure_marked}
use Rattle.wc_archive.proofs.Marking.{sources_within, targets_within}
use Rattle.wc_archive.proofs.exported.in_closure.Goals as goal

pub mark_links-requires-clause-sources : goal.mark_links-requires-clause-sources
mark_links-requires-clause-sources c =
    let g = c.graph-graph.result.now in
    let links : c.as_slice.result.now ≡ g.links = c.as_slice.ensures ∙ ap (λ (p : List Link × ℕ). p.0) c.links.ensures.value in
    let size : length c.in_ok-marks.marks.items ≡ length g.nodes + 1 = ap length c.in_ok-marks.ensures ∙ c.requires ∙ sym (ap (λ ns. length ns + 1) c.graph-graph.ensures.nodes.0) in
    subst (λ (ls : List Link). All (λ l. l.source < length c.in_ok-marks.marks.items) ls) (sym links)
    (subst (λ (n : ℕ). All (λ l. l.source < n) g.links) (sym size) (sources_within g.nodes g.links c.links.ensures.correct))

pub mark_links-requires-clause-targets : goal.mark_links-requires-clause-targets
mark_links-requires-clause-targets c =
    let g = c.graph-graph.result.now in
    let links : c.as_slice.result.now ≡ g.links = c.as_slice.ensures ∙ ap (λ (p : List Link × ℕ). p.0) c.links.ensures.value in
    let size : length c.in_ok-marks.marks.items ≡ length g.nodes + 1 = ap length c.in_ok-marks.ensures ∙ c.requires ∙ sym (ap (λ ns. length ns + 1) c.graph-graph.ensures.nodes.0) in
    subst (λ (ls : List Link). All (λ l. l.target < length c.in_ok-marks.marks.items) ls) (sym links)
    (subst (λ (n : ℕ). All (λ l. l.target < n) g.links) (sym size) (targets_within g.nodes g.links c.links.ensures.correct))

pub returns : goal.returns
returns c = λ root are.
    let w = c.args.world.now.world in
    let links : c.as_slice.result.now ≡ w.links = c.as_slice.ensures ∙ ap (λ (p : List Link × ℕ). p.0) c.links.ensures.value ∙ c.graph-graph.ensures.links.0 in
    let copied : c.in_ok-marks.marks.items ≡ c.args.below.now = c.in_ok-marks.ensures in
    closure_marked w.links root (length w.nodes) c.args.below.now c.mark_links.new.marks.items are (c.mark_links.ensures.size ∙ ap length copied ∙ c.requires)
    (λ n. c.mark_links.ensures.marks n
    ∙ (λ i. is_marked (copied i) n || list_any (ends_at c.args.below.now n) (links i)))
