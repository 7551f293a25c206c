use Rattle.std.proofs.Common.{refl}
use Rattle.wc_archive_file.proofs.Files.{completed, incomplete}
use Rattle.wc_archive_file.proofs.file.archive_of.Goals as goal

pub returns-in-Some : goal.returns-in-Some
returns-in-Some c = let h = completed c.args.form _ _ c.in_ok-library.ensures c.in-Some.is in (h.0, h.1, refl, refl)

pub returns-in-None : goal.returns-in-None
returns-in-None c = incomplete c.args.form _ c.in_ok-library.ensures c.in-None.is
