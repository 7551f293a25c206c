use Rattle.wc_runner.proofs.TrailLaws.{comes_to}
use Rattle.wc_runner.proofs.laws.trails_come_to_turns.Goals as goal

pub returns : goal.returns
returns g c = λ limits n m a b p q w v trail. comes_to g.T.Transport g.P.Pacer limits a p w n m b q v trail
