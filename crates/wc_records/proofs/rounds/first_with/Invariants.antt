use Rattle.std.proofs.Common.{◌≡◌, drop}
use Rattle.wc_records.specs.Rounds.{first_with}
use Rattle.wc_records.proofs.rounds.first_with.Given as goal

abbrev pub invariant-loop-pid : goal.invariant-loop-pid
invariant-loop-pid l = first_with l.last l.best (drop l.pid-index l.due) ≡ first_with l.fn.last l.fn.start l.due
