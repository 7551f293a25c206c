use Rattle.wc_report.specs.Shows.{link_type_text}
use Rattle.wc_archive_file.specs.Reads.{IsAny}
use Rattle.wc_archive_file.proofs.Steps.{string_none, string_read}
use Rattle.wc_archive_file.proofs.parts.link_type_of.Goals as goal

pub returns-in-Some : goal.returns-in-Some
returns-in-Some c = string_read link_type_text IsAny _ _ _ c.in-Some.ensures c.link_type_in.ensures

pub returns-in-None : goal.returns-in-None
returns-in-None c = string_none link_type_text IsAny _ c.in-None.ensures
