use Rattle.std.proofs.Common.{◌∙◌}
use Rattle.wc_graph.proofs.Reaching.{can_explore}
use Rattle.wc_graph.proofs.flood.explore.Goals as goal

pub flood-requires : goal.flood-requires
flood-requires c = can_explore c.args.table.now c.args.start _ c.requires.start c.requires.inside (c.deref_mut.ensures.value ∙ c.in_ok-colours.ensures)
