use Rattle.std.proofs.Common.{◌≡◌, drop}
use Rattle.wc_restart.specs.Ports.{all_among}
use Rattle.wc_restart.proofs.ports.all_among.Given as goal

abbrev pub invariant-loop-port : goal.invariant-loop-port
invariant-loop-port l = all_among (drop l.port-index l.port-items) l.others ≡ all_among l.port-items l.others
