use Rattle.wc_store.proofs.Placed.{refused_appends}
use Rattle.wc_store.proofs.writes.append_to.Goals as goal

pub returns-in-Err : goal.returns-in-Err
returns-in-Err g c =
    let told = c.in-Err.ensures in
    refused_appends g.D.Disk (Unit {0}) (Unit {0}) _ _ _ _ _ _ c.in-Err.error _ c.refusal_of.ensures told.any_moment told.no_longer told.refused told.unwritten told.still told.version
    told.generation told.tells told.cause told.kept
