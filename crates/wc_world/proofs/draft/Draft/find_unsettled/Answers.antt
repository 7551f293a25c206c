use Rattle.std.proofs.Common.{◌∙◌, length}
use Rattle.wc_world.proofs.Unsettled.{least_is_first}
use Rattle.wc_world.proofs.draft.Draft.find_unsettled.Goals as goal

pub returns : goal.returns
returns c =
    let d = c.args.self.now in
    c.least_touched.ensures ∙ least_is_first d.graph.links d.records.0 d.touched.items 0 (length d.graph.nodes) c.requires.ascending c.requires.others
