use Rattle.wc_fits.proofs.Lengths.{lengths_bare}
use Rattle.wc_fits.proofs.checkpoints.outline_lengths.Goals as goal

pub returns-in-Some : goal.returns-in-Some
returns-in-Some c = rw (c.in-Some.is, lengths_bare) c.lengths_of.ensures
