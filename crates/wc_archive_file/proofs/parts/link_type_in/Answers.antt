use Rattle.std.proofs.Common.{Some, None}
use Rattle.wc_report.specs.Shows.{link_type_text}
use Rattle.wc_archive_file.specs.Reads.{IsAny}
use Rattle.wc_archive_file.proofs.Named.{type_names}
use Rattle.wc_archive_file.proofs.Steps.{named_read, unnamed_read}
use Rattle.wc_archive_file.proofs.parts.link_type_in.Goals as goal

pub returns-in-Some : goal.returns-in-Some
returns-in-Some c = named_read link_type_text IsAny c.args.name.now _ (type_names c.args.name.now (Some _) c.in-Some.ensures)

pub returns-in-None : goal.returns-in-None
returns-in-None c = unnamed_read link_type_text IsAny c.args.name.now (type_names c.args.name.now None c.in-None.ensures)
