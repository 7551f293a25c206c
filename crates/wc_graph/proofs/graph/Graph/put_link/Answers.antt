use Rattle.std.proofs.Common.{ℕ, List, length, sym, subst}
use Rattle.wc_graph.specs.Rules.{IsLinkCorrect}
use Rattle.wc_graph.specs.declared.link.Link.{Link}
use Rattle.wc_graph.specs.Index.{IsIndexed, source_of, target_of}
use Rattle.wc_graph.proofs.Indexing.{with_link}
use Rattle.wc_graph.specs.declared.labels.End.TheVariants.{Source, Target}
use Rattle.wc_graph.specs.Labels.{IsLabelled}
use Rattle.wc_graph.proofs.Labelling.{still_labelled, with_label}
use Rattle.wc_graph.specs.Provenance.{Provenance}
use Rattle.wc_graph.specs.Refusals.{IsAllowed}
use Rattle.wc_graph.proofs.Correct.{link_correct_push}
use Rattle.wc_graph.proofs.graph.Graph.put_link.Goals as goal

pub returns-clause-correct : goal.returns-clause-correct
returns-clause-correct c =
    let old = c.self.inside in
    let new = subst (λ (g : Provenance). IsAllowed g.nodes g.links c.args.link) (sym c.self.view_is) c.requires.allowed in
    subst (IsLinkCorrect old.nodes.0) (sym c.in_ok-push.ensures.ok) (link_correct_push old.nodes.0 old.links.0 c.args.link c.self.invariant.0 new)

-- where the link finds no memory, what is known of labels goes on to fit the links
pub invariant_of-self : goal.invariant_of-self
invariant_of-self c =
    let old = c.self.inside in
    let i = c.self.invariant in
    let kept = c.in_err-push.ensures.err in
    let count = length old.nodes.0 in (
      subst (λ (r : List Link × ℕ). IsLinkCorrect old.nodes.0 r.0) (sym kept) i.0,
      i.1,
      subst (λ (r : List Link × ℕ). IsIndexed source_of r.0 count old.by_source) (sym kept) i.2,
      subst (λ (r : List Link × ℕ). IsIndexed target_of r.0 count old.by_target) (sym kept) i.3,
      subst (λ (r : List Link × ℕ). IsLabelled Source r.0 c.settle.new.self.busy) (sym kept)
          (still_labelled Source old.links.0 old.at_source.busy c.settle.new.self.busy c.label_node-from.result c.args.link c.settle.ensures i.4),
      subst (λ (r : List Link × ℕ). IsLabelled Target r.0 c.settle-2.new.self.busy) (sym kept)
          (still_labelled Target old.links.0 old.at_target.busy c.settle-2.new.self.busy c.label_node-into.result c.args.link c.settle-2.ensures i.5),
    )

pub invariant_of-self-2 : goal.invariant_of-self-2
invariant_of-self-2 c =
    let old = c.self.inside in
    let i = c.self.invariant in
    let added = c.in_ok-push.ensures.ok in
    let a = c.add_link.ensures in
    let b = c.add_link-2.ensures in
    let count = length old.nodes.0 in (
      returns-clause-correct c,
      i.1,
      subst (λ (ls : List Link). IsIndexed source_of ls count c.add_link.new.self) (sym added)
          (with_link source_of old.links.0 count c.args.link old.by_source c.add_link.new.self i.2 a.whole a.adds),
      subst (λ (ls : List Link). IsIndexed target_of ls count c.add_link-2.new.self) (sym added)
          (with_link target_of old.links.0 count c.args.link old.by_target c.add_link-2.new.self i.3 b.whole b.adds),
      subst (λ (ls : List Link). IsLabelled Source ls c.settle.new.self.busy) (sym added)
          (with_label Source old.links.0 old.at_source.busy c.settle.new.self.busy c.label_node-from.result c.args.link c.settle.ensures i.4 c.label_node-from.ensures),
      subst (λ (ls : List Link). IsLabelled Target ls c.settle-2.new.self.busy) (sym added)
          (with_label Target old.links.0 old.at_target.busy c.settle-2.new.self.busy c.label_node-into.result c.args.link c.settle-2.ensures i.5 c.label_node-into.ensures),
    )
