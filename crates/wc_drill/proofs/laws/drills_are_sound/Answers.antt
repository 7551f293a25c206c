use Rattle.wc_drill.proofs.Keeping.{drills_sound}
use Rattle.wc_drill.proofs.laws.drills_are_sound.Goals as goal

pub returns : goal.returns
returns c = drills_sound
