use Rattle.wc_runner.specs.Outside.{in_run, in_turn}
use Rattle.wc_runner.proofs.ManyTurns.{turns_sound}
use Rattle.wc_runner.proofs.laws.turns_keep_sound.Goals as goal

pub returns : goal.returns
returns g c = record {
  in_turn = λ limits now old new. turns_sound (in_turn g.T.Transport limits now old new);
  in_run = λ limits old new clock. turns_sound (in_run g.T.Transport g.P.Pacer limits old new clock);
}
