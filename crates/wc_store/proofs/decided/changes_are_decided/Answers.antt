use Rattle.wc_store.proofs.Changes.{changes_decided}
use Rattle.wc_store.proofs.decided.changes_are_decided.Goals as goal

pub returns : goal.returns
returns c = changes_decided
