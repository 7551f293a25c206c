use Rattle.std.proofs.Common.{◌≡◌, drop}
use Rattle.wc_machine.specs.Calls.{bound_in}
use Rattle.wc_outline.specs.Binding.{with_last}
use Rattle.wc_outline.proofs.bindings.bind_all.Given as goal

abbrev pub invariant-loop-awaited : goal.invariant-loop-awaited
invariant-loop-awaited l = bound_in (with_last l.ctx l.last) (drop l.awaited-index l.awaited-items) ≡ bound_in l.fn.ctx l.awaited-items
