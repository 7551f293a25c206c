use Rattle.std.proofs.Common.{◌≡◌, drop}
use Rattle.std.specs.List.{list_all}
use Rattle.wc_fits.specs.Fits.{is_process}
use Rattle.wc_fits.proofs.checkpoints.are_processes.Given as goal

abbrev pub invariant-loop-pid : goal.invariant-loop-pid
invariant-loop-pid l = list_all (is_process l.records.0) (drop l.pid-index l.pid-items) ≡ list_all (is_process l.records.0) l.pid-items
