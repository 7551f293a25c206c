use Rattle.wc_world.proofs.Unsettled.{settled_sorted}
use Rattle.wc_world.proofs.draft.Draft.settle.Goals as goal

pub find_unsettled-requires-clause-others : goal.find_unsettled-requires-clause-others
find_unsettled-requires-clause-others c =
    settled_sorted c.args.self.touched.items c.sort_unstable.new.self.items c.args.self.graph.links c.args.self.records.0 c.sort_unstable.ensures.permutation c.requires.others
