use Rattle.wc_act.proofs.SoundDeeds.{deeds_keep, deeds_begin}
use Rattle.wc_act.proofs.laws.deeds_keep_worlds_sound.Goals as goal

pub returns-clause-keep : goal.returns-clause-keep
returns-clause-keep g c = deeds_keep c.events_keep_sound.ensures c.worlds_continue_themselves.ensures g.T.Transport g.P.Pacer

pub returns-clause-begin : goal.returns-clause-begin
returns-clause-begin g c = deeds_begin c.drills_are_sound.ensures
