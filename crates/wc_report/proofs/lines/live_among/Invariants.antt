use Rattle.std.proofs.Common.{◌≡◌, ◌+◌, ◌≤◌, drop}
use Rattle.wc_report.specs.Lines.{live_count}
use Rattle.wc_report.proofs.lines.live_among.Given as goal

abbrev pub invariant-loop-process : goal.invariant-loop-process
invariant-loop-process l = (l.count + live_count (drop l.process-index l.processes) ≡ live_count l.processes) × (l.count ≤ l.process-index)
