use Rattle.std.proofs.Common.{◌≡◌, ◌∷◌, map, take}
use Rattle.std.specs.Prelude.{codes}
use Rattle.wc_restart.specs.Chains.{code, aborted}
use Rattle.wc_restart.proofs.codes.codes_of.Given as goal

abbrev pub invariant-loop-status : goal.invariant-loop-status
invariant-loop-status l =
    l.codes ≡ code 401 (codes "maximum iterations") ∷ (code 402 (codes "second unhandled failure") ∷ map aborted (take l.status-index l.status-items))
