use Rattle.wc_report.specs.Names.{state_text}
use Rattle.wc_archive_file.specs.Archives.{IsState}
use Rattle.wc_archive_file.proofs.Steps.{string_none, string_read}
use Rattle.wc_archive_file.proofs.parts.state_of.Goals as goal

pub returns-in-Some : goal.returns-in-Some
returns-in-Some c = string_read state_text IsState _ _ _ c.in-Some.ensures c.state_in.ensures

pub returns-in-None : goal.returns-in-None
returns-in-None c = string_none state_text IsState _ c.in-None.ensures
