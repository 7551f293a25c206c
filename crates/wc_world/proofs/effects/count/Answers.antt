use Rattle.std.proofs.Common.{arith}
use Rattle.wc_world.proofs.Needs.{needed_is_short}
use Rattle.wc_world.proofs.effects.count.Goals as goal

pub count_change-requires-clause-nodes : goal.count_change-requires-clause-nodes
count_change-requires-clause-nodes c = omega (arith, (needed_is_short c.args.changes.now).nodes)

pub count_change-requires-clause-links : goal.count_change-requires-clause-links
count_change-requires-clause-links c = omega (arith, (needed_is_short c.args.changes.now).links)

pub count_change-requires-clause-records : goal.count_change-requires-clause-records
count_change-requires-clause-records c = omega (arith, (needed_is_short c.args.changes.now).records)

pub count_change-requires-clause-libraries : goal.count_change-requires-clause-libraries
count_change-requires-clause-libraries c = omega (arith, (needed_is_short c.args.changes.now).libraries)

pub returns-clause-few : goal.returns-clause-few
returns-clause-few c =
    let short = needed_is_short c.args.changes.now in
    (omega (arith, short.nodes), omega (arith, short.links), omega (arith, short.records))
