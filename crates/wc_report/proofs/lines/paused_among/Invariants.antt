use Rattle.std.proofs.Common.{◌≡◌, ◌+◌, ◌≤◌, drop}
use Rattle.wc_report.specs.Lines.{paused_count}
use Rattle.wc_report.proofs.lines.paused_among.Given as goal

abbrev pub invariant-loop-process : goal.invariant-loop-process
invariant-loop-process l = (l.count + paused_count (drop l.process-index l.processes) ≡ paused_count l.processes) × (l.count ≤ l.process-index)
