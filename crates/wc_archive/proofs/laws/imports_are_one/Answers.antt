use Rattle.wc_archive.proofs.OneImport.{imports_are_one}
use Rattle.wc_archive.proofs.laws.imports_are_one.Goals as goal

pub returns : goal.returns
returns c = imports_are_one
