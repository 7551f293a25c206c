use Rattle.wc_soundness.proofs.Touched.{tables_narrow}
use Rattle.wc_soundness.proofs.touches.tables_narrow.Goals as goal

pub returns : goal.returns
returns c = tables_narrow
