use Rattle.std.proofs.Common.{◌≡◌, ◌≤◌, drop}
use Rattle.wc_reader.specs.Depth.{deep_from, start}
use Rattle.wc_reader.proofs.depth.too_deep.Given as goal

abbrev pub invariant-loop-token : goal.invariant-loop-token
invariant-loop-token l =
    (deep_from l.walk (drop l.token-index l.tokens) ≡ deep_from start l.tokens) × (l.walk.braces ≤ 24) × (l.walk.brackets ≤ 128) × (l.walk.weight ≤ 100)
