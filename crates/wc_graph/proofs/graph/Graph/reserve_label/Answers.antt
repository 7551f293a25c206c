use Rattle.std.proofs.Common.{sym, subst}
use Rattle.wc_graph.specs.declared.labels.End.TheVariants.{Source, Target}
use Rattle.wc_graph.specs.Labels.{HasGathered}
use Rattle.wc_graph.specs.Provenance.{Provenance}
use Rattle.wc_graph.proofs.Labelling.{still_noted}
use Rattle.wc_graph.proofs.graph.Graph.reserve_label.Goals as goal

pub invariant_of-self : goal.invariant_of-self
invariant_of-self c =
    let old = c.self.inside in
    let i = c.self.invariant in
    let label = c.args.link.now.label in
    let from = subst (λ (g : Provenance). HasGathered Source g.links c.label_node-from.result c.gather-gathered_from.result) (sym c.self.view_is) c.gather-gathered_from.ensures in
    let into = subst (λ (g : Provenance). HasGathered Target g.links c.label_node-into.result c.gather-gathered_into.result) (sym c.self.view_is) c.gather-gathered_into.ensures in (
      i.0,
      i.1,
      i.2,
      i.3,
      still_noted Source old.links.0 old.at_source.busy c.note.new.self.busy c.label_node-from.result c.gather-gathered_from.result label from c.note.ensures i.4,
      still_noted Target old.links.0 old.at_target.busy c.note-2.new.self.busy c.label_node-into.result c.gather-gathered_into.result label into c.note-2.ensures i.5,
    )
