use Rattle.wc_file_disk.proofs.Spans.{keeps_all}
use Rattle.wc_file_disk.proofs.held.HeldFile.open_for.Goals as goal

pub returns-in_err-make-clause-kept : goal.returns-in_err-make-clause-kept
returns-in_err-make-clause-kept g c = keeps_all _ _ _ c.open_once.ensures.kept c.make.ensures.kept

pub returns-clause-kept : goal.returns-clause-kept
returns-clause-kept g c = keeps_all _ _ _ c.open_once.ensures.kept c.make.ensures.kept
