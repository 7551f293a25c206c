use Rattle.std.proofs.Common.{◌<◌, map, take}
use Rattle.wc_value.specs.Spelling.{depth, deepest}
use Rattle.wc_value.proofs.Depths.{depth_of}
use Rattle.wc_value.proofs.limits.+depth.Given as goal

abbrev pub invariant-are_within_depth-loop-item : goal.invariant-are_within_depth-loop-item
invariant-are_within_depth-loop-item l = deepest (map depth (take l.item-index l.item-items)) < l.most_depth

abbrev pub invariant-fields_are_within_depth-loop-name : goal.invariant-fields_are_within_depth-loop-name
invariant-fields_are_within_depth-loop-name l = deepest (map depth_of (take l._name-index l._name-items)) < l.most_depth
