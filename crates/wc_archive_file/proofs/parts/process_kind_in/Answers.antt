use Rattle.std.proofs.Common.{Some, None}
use Rattle.wc_report.specs.Lists.{process_kind_text}
use Rattle.wc_archive_file.specs.Reads.{IsAny}
use Rattle.wc_archive_file.proofs.Named.{kind_names}
use Rattle.wc_archive_file.proofs.Steps.{named_read, unnamed_read}
use Rattle.wc_archive_file.proofs.parts.process_kind_in.Goals as goal

pub returns-in-Some : goal.returns-in-Some
returns-in-Some c = named_read process_kind_text IsAny c.args.name.now _ (kind_names c.args.name.now (Some _) c.in-Some.ensures)

pub returns-in-None : goal.returns-in-None
returns-in-None c = unnamed_read process_kind_text IsAny c.args.name.now (kind_names c.args.name.now None c.in-None.ensures)
