use Rattle.wc_archive_file.proofs.Digits.{value_found}
use Rattle.wc_archive_file.proofs.parts.value_in.Goals as goal

pub returns-in-Ok : goal.returns-in-Ok
returns-in-Ok c = value_found _ _ c.in-Ok.ensures.found.0 c.in-Ok.ensures.found.1
