use Rattle.std.proofs.Common.{◌≡◌, drop}
use Rattle.std.specs.List.{list_all}
use Rattle.wc_outline.proofs.arguments.all_fit.Given as goal

abbrev pub invariant-loop-fits : goal.invariant-loop-fits
invariant-loop-fits l = list_all (λ f. f.1) (drop l.fits-index l.fits-items) ≡ list_all (λ f. f.1) l.fits-items
