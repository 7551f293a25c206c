use Rattle.std.proofs.Common.{◌≡◌, drop}
use Rattle.std.specs.Prelude.{flat_map}
use Rattle.wc_outline.specs.Keys.{arm_mentions, mentions_key}
use Rattle.wc_outline.proofs.keys.one_arm_mentions_key.Given as goal

abbrev pub invariant-loop-arm : goal.invariant-loop-arm
invariant-loop-arm l = mentions_key l.key (flat_map arm_mentions (drop l.arm-index l.arms)) ≡ mentions_key l.key (flat_map arm_mentions l.arms)
