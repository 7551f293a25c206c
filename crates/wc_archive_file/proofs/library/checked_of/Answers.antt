use Rattle.wc_archive_file.proofs.Libraries.{unfound_rules, unruled}
use Rattle.wc_archive_file.proofs.library.checked_of.Goals as goal

pub printed_of-requires-clause-rules : goal.printed_of-requires-clause-rules
printed_of-requires-clause-rules c = unfound_rules c.args.library _ c.in_ok-first_finding.ensures c.in-None.is

pub returns-in-Some : goal.returns-in-Some
returns-in-Some c = unruled c.args.text.now c.args.library c.requires _ _ c.in_ok-first_finding.ensures c.in-Some.is
