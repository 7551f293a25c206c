use Rattle.wc_runner.specs.Outside.{in_run, in_turn}
use Rattle.wc_runner.proofs.Codes.{turns_bring}
use Rattle.wc_runner.proofs.laws.turns_bring_codes.Goals as goal

pub returns : goal.returns
returns g c = record {
  in_turn = λ limits now old new. turns_bring (in_turn g.T.Transport limits now old new);
  in_run = λ limits old new clock. turns_bring (in_run g.T.Transport g.P.Pacer limits old new clock);
}
