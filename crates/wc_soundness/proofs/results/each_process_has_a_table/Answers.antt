use Rattle.wc_soundness.proofs.FoundResults.{its_table_agrees}
use Rattle.wc_soundness.proofs.results.each_process_has_a_table.Goals as goal

pub returns : goal.returns
returns c = its_table_agrees
