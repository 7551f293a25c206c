use Rattle.std.proofs.Common.{◌≡◌, drop}
use Rattle.wc_syntax.specs.Findings.{is_among}
use Rattle.wc_syntax.proofs.lookup.is_among.Given as goal

abbrev pub invariant-loop-one : goal.invariant-loop-one
invariant-loop-one l = is_among l.name (drop l.one-index l.one-items) ≡ is_among l.name l.one-items
