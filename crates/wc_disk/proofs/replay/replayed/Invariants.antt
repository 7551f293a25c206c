use Rattle.std.proofs.Common.{◌≡◌, take}
use Rattle.wc_disk.specs.Volume.{settled, after_calls}
use Rattle.wc_disk.proofs.replay.replayed.Given as goal

abbrev pub invariant-loop-call : goal.invariant-loop-call
invariant-loop-call l = l.bytes.items ≡ (after_calls (take l.call-index l.calls) (settled l.begun)).seen
