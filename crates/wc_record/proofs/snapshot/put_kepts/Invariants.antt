use Rattle.std.proofs.Common.{drop, map}
use Rattle.wc_world.specs.Snapshot.{kept_change}
use Rattle.wc_record.proofs.Remaining.{Leaves}
use Rattle.wc_record.proofs.snapshot.put_kepts.Given as goal

abbrev pub invariant-loop-process : goal.invariant-loop-process
invariant-loop-process l = Leaves l.fn.out l.out (map kept_change (drop l.process-index l.records)) (map kept_change l.records)
