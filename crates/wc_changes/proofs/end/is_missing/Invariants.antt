use Rattle.std.proofs.Common.{◌≡◌, drop}
use Rattle.std.specs.List.{list_any}
use Rattle.wc_changes.specs.Advances.{is_missing}
use Rattle.wc_changes.proofs.end.is_missing.Given as goal

abbrev pub invariant-loop-port : goal.invariant-loop-port
invariant-loop-port l = list_any (is_missing l.outputs) (drop l.port-index l.port-items) ≡ list_any (is_missing l.outputs) l.port-items
