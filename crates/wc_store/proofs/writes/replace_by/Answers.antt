use Rattle.wc_journal.specs.declared.journal.Journal.{Journal}
use Rattle.wc_store.proofs.Placed.{refused_replaces}
use Rattle.wc_store.proofs.writes.replace_by.Goals as goal

pub returns-in-Err : goal.returns-in-Err
returns-in-Err g c =
    let told = c.in-Err.ensures in
    refused_replaces g.D.Disk Journal _ _ _ _ c.in-Err.error _ c.refusal_of.ensures told.any_moment told.refused told.untouched told.tells told.cause
