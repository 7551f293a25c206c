use Rattle.wc_archive_file.specs.Archives.{IsValue}
use Rattle.wc_archive_file.specs.Reads.{value_digits}
use Rattle.wc_archive_file.proofs.Steps.{string_none, string_read}
use Rattle.wc_archive_file.proofs.parts.value_of.Goals as goal

pub returns-in-Some : goal.returns-in-Some
returns-in-Some c = string_read value_digits IsValue _ _ _ c.in-Some.ensures c.value_in_digits.ensures

pub returns-in-None : goal.returns-in-None
returns-in-None c = string_none value_digits IsValue _ c.in-None.ensures
