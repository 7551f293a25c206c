use Rattle.std.proofs.Common.{refl}
use Rattle.wc_plan.specs.declared.deed.Asked.TheVariants as asked
use Rattle.wc_act.proofs.Marks.{plain_killed, result_changes, result_storable}
use Rattle.wc_act.proofs.events.killed.Goals as goal

pub returns-clause-leads : goal.returns-clause-leads
returns-clause-leads c = result_changes c.args.world.now.world (asked.Kill c.args.pid) c.kill_changes.result c.kill_changes.ensures.changes

pub returns-clause-storable : goal.returns-clause-storable
returns-clause-storable c =
    let w = c.args.world.now.world in
    let e = c.kill_changes.ensures in
    result_storable w (asked.Kill c.args.pid) c.kill_changes.result refl c.graph-graph.ensures.reached (plain_killed w c.args.pid) e.changes e.accepted e.continues e.sound e.room
