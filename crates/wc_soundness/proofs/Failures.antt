-- A job fails five times and is played, by computation.
use Rattle.std.proofs.Common.{true, false, refl}
use Rattle.wc_machine.specs.Machine as machine
use Rattle.wc_machine.specs.Turns as turning
use Rattle.wc_machine.specs.Turns.{TurnGives}
use Rattle.wc_machine.specs.declared.answer.TaskAnswer.TheVariants as answer
use Rattle.wc_soundness.specs.Library.{double}
use Rattle.wc_soundness.specs.FanWorlds as fans
use Rattle.wc_soundness.specs.FailingWorlds as failing
use Rattle.wc_soundness.specs.SmallLaws.{FailuresGo}
use Rattle.wc_soundness.proofs.Expressions.{request_three}

pub failures_go : FailuresGo
failures_go = record {
  first_fails = record {
    leads = machine.turns (failing.tries 0 0 false) answer.Failed 0 (failing.to_try 1 20000 false) refl refl
        (turning.moves double (failing.upload 0 0) (fans.request 51) answer.Failed (record { part = failing.upload 1 20000; paused = false }) refl refl request_three refl);
    after = refl;
  };
  too_early = refl;
  second_fails = record {
    leads = machine.turns (failing.tries 1 20000 false) answer.Failed 20000 (failing.to_try 2 60000 false) refl refl
        (turning.moves double (failing.upload 1 20000) (fans.request 51) answer.Failed (record { part = failing.upload 2 60000; paused = false }) refl refl request_three refl);
    after = refl;
  };
  third_fails = record {
    leads = machine.turns (failing.tries 2 60000 false) answer.Failed 60000 (failing.to_try 3 140000 false) refl refl
        (turning.moves double (failing.upload 2 60000) (fans.request 51) answer.Failed (record { part = failing.upload 3 140000; paused = false }) refl refl request_three refl);
    after = refl;
  };
  fourth_fails = record {
    leads = machine.turns (failing.tries 3 140000 false) answer.Failed 140000 (failing.to_try 4 300000 false) refl refl
        (turning.moves double (failing.upload 3 140000) (fans.request 51) answer.Failed (record { part = failing.upload 4 300000; paused = false }) refl refl request_three refl);
    after = refl;
  };
  fifth_fails = record {
    leads = machine.turns (failing.tries 4 300000 false) answer.Failed 300000 (failing.to_try 5 300000 true) refl refl
        (turning.moves double (failing.upload 4 300000) (fans.request 51) answer.Failed (record { part = failing.upload 5 300000; paused = true }) refl refl request_three refl);
    after = refl;
  };
  paused = refl;
  plays = record { leads = machine.plays (failing.tries 5 300000 true) (record { found = refl; live = refl }); after = refl };
  ready = refl;
}
