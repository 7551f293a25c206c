use Rattle.wc_act.proofs.SoundDeeds.{told_trees_are_meant as told}
use Rattle.wc_act.proofs.laws.told_trees_are_meant.Goals as goal

pub returns : goal.returns
returns c = told
