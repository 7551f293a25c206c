use Rattle.std.proofs.Common.{◌≡◌}
use Rattle.wc_value.specs.Draws.{noise, after_draws}
use Rattle.wc_value.proofs.generator.Generator.bytes.Given as goal

abbrev pub invariant-loop-at : goal.invariant-loop-at
invariant-loop-at l = (l.bytes.items ≡ noise l._at l.fn.self.x) × (l.self.x ≡ after_draws l._at l.fn.self.x)
