use Rattle.std.proofs.Common.{◌≡◌, ◌++◌, drop}
use Rattle.std.specs.Prelude.{if◌then◌else◌}
use Rattle.wc_restart.specs.Chains.{placed}
use Rattle.wc_restart.proofs.codes.placed.Given as goal

abbrev pub invariant-loop-next : goal.invariant-loop-next
invariant-loop-next l =
    l.found ++ (if l.waits then placed l.status (drop l.next-index l.next-items) else drop l.next-index l.next-items) ≡ placed l.status l.next-items
