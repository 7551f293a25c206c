use Rattle.std.proofs.Common.{refl}
use Rattle.wc_plan.specs.declared.deed.Asked.TheVariants as asked
use Rattle.wc_act.proofs.Marks.{plain_paused, result_changes, result_storable}
use Rattle.wc_act.proofs.events.paused.Goals as goal

pub returns-clause-leads : goal.returns-clause-leads
returns-clause-leads c = result_changes c.args.world.now.world (asked.Pause c.args.pid) c.pause_changes.result c.pause_changes.ensures.changes

pub returns-clause-storable : goal.returns-clause-storable
returns-clause-storable c =
    let w = c.args.world.now.world in
    let e = c.pause_changes.ensures in
    result_storable w (asked.Pause c.args.pid) c.pause_changes.result refl c.graph-graph.ensures.reached (plain_paused w c.args.pid) e.changes e.accepted e.continues e.sound e.room
