use Rattle.wc_verify.proofs.Unique.{no_cycle, no_wrong}
use Rattle.wc_verify.proofs.laws.sound_worlds_have_no_fault.Goals as goal

pub returns : goal.returns
returns c = record { cycles = no_cycle; values = no_wrong }
