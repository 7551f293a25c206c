use Rattle.wc_soundness.proofs.NoChanges.{only_marks_change_nothing}
use Rattle.wc_soundness.proofs.lists.only_marks_change_nothing.Goals as goal

pub returns : goal.returns
returns c = only_marks_change_nothing
