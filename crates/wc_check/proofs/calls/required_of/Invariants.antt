use Rattle.std.proofs.Common.{take}
use Rattle.wc_syntax.specs.Findings.{required_names}
use Rattle.wc_check.specs.Flat.{behind}
use Rattle.wc_check.specs.Least.{Agree}
use Rattle.wc_check.proofs.calls.required_of.Given as goal

abbrev pub invariant-loop-port : goal.invariant-loop-port
invariant-loop-port l = record {
  same : Agree l.seen (behind l.required.items);
  all : Agree (behind l.required.items) (required_names (take l.port-index l.ports));
}
