use Rattle.std.proofs.Common.{◌≡◌, drop}
use Rattle.std.specs.Option.{option_copied}
use Rattle.wc_fits.specs.Fits.{ascend_after, names_ascend}
use Rattle.wc_fits.proofs.conditions.names_ascend.Given as goal

abbrev pub invariant-loop-name : goal.invariant-loop-name
invariant-loop-name l = ascend_after (option_copied l.last) (drop l.name-index l.name-items) ≡ names_ascend l.name-items
