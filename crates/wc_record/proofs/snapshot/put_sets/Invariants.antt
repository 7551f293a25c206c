use Rattle.std.proofs.Common.{drop, map}
use Rattle.wc_world.specs.Snapshot.{set_change}
use Rattle.wc_record.proofs.Remaining.{Leaves}
use Rattle.wc_record.proofs.snapshot.put_sets.Given as goal

abbrev pub invariant-loop-process : goal.invariant-loop-process
invariant-loop-process l = Leaves l.fn.out l.out (map set_change (drop l.process-index l.records)) (map set_change l.records)
