use Rattle.std.proofs.Common.{subst}
use Rattle.wc_graph.specs.Reached.{AreExactly}
use Rattle.wc_graph.specs.Walks.{Leads, Reaches}
use Rattle.wc_archive.proofs.marks.called_below.Goals as goal

pub returns-in-Ok : goal.returns-in-Ok
returns-in-Ok c = subst (λ types. AreExactly (Reaches (Leads types c.args.graph.now.links) c.args.root) c.in-Ok.ids) c.in_ok-types.ensures c.in-Ok.ensures.ok
