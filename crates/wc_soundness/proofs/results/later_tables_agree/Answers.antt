use Rattle.wc_soundness.proofs.LaterTables.{later_tables_agree}
use Rattle.wc_soundness.proofs.results.later_tables_agree.Goals as goal

pub returns : goal.returns
returns c = later_tables_agree
