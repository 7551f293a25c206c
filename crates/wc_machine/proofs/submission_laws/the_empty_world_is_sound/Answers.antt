use Rattle.wc_machine.proofs.EmptyWorld.{empty_is_sound}
use Rattle.wc_machine.proofs.submission_laws.the_empty_world_is_sound.Goals as goal

pub returns : goal.returns
returns c = empty_is_sound
