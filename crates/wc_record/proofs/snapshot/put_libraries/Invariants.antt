use Rattle.std.proofs.Common.{drop, map}
use Rattle.wc_world.specs.Snapshot.{library_change}
use Rattle.wc_record.proofs.Remaining.{Leaves}
use Rattle.wc_record.proofs.snapshot.put_libraries.Given as goal

abbrev pub invariant-loop-library : goal.invariant-loop-library
invariant-loop-library l = Leaves l.fn.out l.out (map library_change (drop l.library-index l.libraries)) (map library_change l.libraries)
