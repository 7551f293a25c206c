use Rattle.std.proofs.Common.{◌≡◌, drop}
use Rattle.wc_disk.specs.Noise.{noised}
use Rattle.wc_disk.proofs.replay.put_noise.Given as goal

abbrev pub invariant-loop-call : goal.invariant-loop-call
invariant-loop-call l = noised (drop l.call-index l.calls) (l.generator.x, l.bytes.items) ≡ noised l.calls (l.seed, l.fn.bytes.items)
