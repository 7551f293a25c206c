use Rattle.std.proofs.Common.{subst}
use Rattle.wc_graph.specs.declared.labels.End.TheVariants.{Source, Target}
use Rattle.wc_graph.specs.Provenance.{Provenance}
use Rattle.wc_graph.specs.Refusals.{LabelIsTaken, TripleIsTaken}
use Rattle.wc_graph.proofs.Labelling.{free}
use Rattle.wc_graph.proofs.graph.Graph.is_label_free.Goals as goal

pub returns-then-lacks-clause-triple : goal.returns-then-lacks-clause-triple
returns-then-lacks-clause-triple c = λ told.
    subst (λ (g : Provenance). TripleIsTaken g.links c.args.link.now → ⊥) c.self.view_is
    (free Source c.self.inside.links.0 c.self.inside.at_source.busy c.args.link.now c.label_node.result c.label_node.ensures c.self.invariant.4 (c.lacks.ensures c.if-lacks.true)).0

pub returns-then-lacks-clause-label : goal.returns-then-lacks-clause-label
returns-then-lacks-clause-label c = λ told.
    subst (λ (g : Provenance). LabelIsTaken g.links c.args.link.now → ⊥) c.self.view_is
    (free Source c.self.inside.links.0 c.self.inside.at_source.busy c.args.link.now c.label_node.result c.label_node.ensures c.self.invariant.4 (c.lacks.ensures c.if-lacks.true)).1

pub returns-clause-triple : goal.returns-clause-triple
returns-clause-triple c = λ told.
    subst (λ (g : Provenance). TripleIsTaken g.links c.args.link.now → ⊥) c.self.view_is
    (free Target c.self.inside.links.0 c.self.inside.at_target.busy c.args.link.now c.label_node-2.result c.label_node-2.ensures c.self.invariant.5 (c.lacks-2.ensures told)).0

pub returns-clause-label : goal.returns-clause-label
returns-clause-label c = λ told.
    subst (λ (g : Provenance). LabelIsTaken g.links c.args.link.now → ⊥) c.self.view_is
    (free Target c.self.inside.links.0 c.self.inside.at_target.busy c.args.link.now c.label_node-2.result c.label_node-2.ensures c.self.invariant.5 (c.lacks-2.ensures told)).1
