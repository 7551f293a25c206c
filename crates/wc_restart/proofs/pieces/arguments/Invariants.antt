use Rattle.std.proofs.Common.{◌≡◌, map, take}
use Rattle.wc_restart.specs.Pieces.{given}
use Rattle.wc_restart.specs.Sources.{source_of}
use Rattle.wc_restart.proofs.pieces.arguments.Given as goal

abbrev pub invariant-loop-port : goal.invariant-loop-port
invariant-loop-port l = l.args ≡ map (given (source_of l.from)) (take l.port-index l.port-items)
