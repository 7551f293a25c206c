use Rattle.std.proofs.Common.{◌≡◌, drop}
use Rattle.wc_json.specs.Limits.{all_within}
use Rattle.wc_json.proofs.reading.all_within.Given as goal

abbrev pub invariant-loop-name : goal.invariant-loop-name
invariant-loop-name l = all_within (drop l.name-index l.name-items) ≡ all_within l.name-items
