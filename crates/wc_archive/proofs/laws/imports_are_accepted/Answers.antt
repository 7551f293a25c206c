use Rattle.wc_archive.proofs.Accepted.{imports_are_accepted}
use Rattle.wc_archive.proofs.laws.imports_are_accepted.Goals as goal

pub returns : goal.returns
returns c = imports_are_accepted
