use Rattle.wc_report.specs.Lists.{process_kind_text}
use Rattle.wc_archive_file.specs.Reads.{IsAny}
use Rattle.wc_archive_file.proofs.Steps.{string_none, string_read}
use Rattle.wc_archive_file.proofs.parts.process_kind_of.Goals as goal

pub returns-in-Some : goal.returns-in-Some
returns-in-Some c = string_read process_kind_text IsAny _ _ _ c.in-Some.ensures c.process_kind_in.ensures

pub returns-in-None : goal.returns-in-None
returns-in-None c = string_none process_kind_text IsAny _ c.in-None.ensures
