use Rattle.wc_archive.proofs.Part.{archives_are_parts_of_imports}
use Rattle.wc_archive.proofs.laws.archives_are_parts_of_imports.Goals as goal

pub returns : goal.returns
returns c = archives_are_parts_of_imports
