use Rattle.std.proofs.Common.{◌≡◌, drop}
use Rattle.std.specs.List.{list_all}
use Rattle.wc_fits.specs.Fits.{frame_fits}
use Rattle.wc_fits.proofs.checkpoints.frames_fit.Given as goal

abbrev pub invariant-loop-frame : goal.invariant-loop-frame
invariant-loop-frame l = list_all (frame_fits l.lengths) (drop l.frame-index l.frame-items) ≡ list_all (frame_fits l.lengths) l.frame-items
