use Rattle.wc_archive_file.proofs.Named.{stripped}
use Rattle.wc_archive_file.proofs.names.behind.Goals as goal

pub returns : goal.returns
returns c = stripped c.args.word.now c.args.text.now c.strip_prefix.result c.strip_prefix.ensures.cases
