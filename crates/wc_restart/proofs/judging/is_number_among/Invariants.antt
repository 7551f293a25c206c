use Rattle.std.proofs.Common.{◌≡◌, drop}
use Rattle.wc_restart.specs.Judging.{is_number_among}
use Rattle.wc_restart.proofs.judging.is_number_among.Given as goal

abbrev pub invariant-loop-other : goal.invariant-loop-other
invariant-loop-other l = is_number_among l.number (drop l.other-index l.other-items) ≡ is_number_among l.number l.other-items
