use Rattle.std.proofs.Common.{◌≡◌, ◌++◌, drop}
use Rattle.std.specs.Prelude.{string_bytes}
use Rattle.wc_report.specs.Lists.{list_text}
use Rattle.wc_report.proofs.list.put_processes.Given as goal

abbrev pub invariant-loop-process : goal.invariant-loop-process
invariant-loop-process l = string_bytes l.out ++ list_text (drop l.process-index l.processes) ≡ string_bytes l.fn.out ++ list_text l.processes
