use Rattle.wc_soundness.proofs.PlainTables.{plain_tables_exactly}
use Rattle.wc_soundness.proofs.results.plain_tables_exactly.Goals as goal

pub returns : goal.returns
returns c = plain_tables_exactly
