use Rattle.std.proofs.Common.{◌≡◌, ◌+◌, length, take}
use Rattle.std.specs.Prelude.{flat_map}
use Rattle.wc_value.specs.Spelling.{file}
use Rattle.wc_value.proofs.limits.room_after_files.Given as goal

abbrev pub invariant-loop-name : goal.invariant-loop-name
invariant-loop-name l = l.left + (5 + length (flat_map file (take l.name-index l.name-items))) ≡ l.room
