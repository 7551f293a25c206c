use Rattle.std.proofs.Common.{◌≡◌, ◌-◌, drop}
use Rattle.wc_journal.specs.Reading.{misfit_from}
use Rattle.wc_journal.proofs.image.misfit.Given as goal

abbrev pub invariant-loop-place : goal.invariant-loop-place
invariant-loop-place l = misfit_from (16 - l.place) l.place (drop l.place l.image) ≡ misfit_from 16 0 l.image
