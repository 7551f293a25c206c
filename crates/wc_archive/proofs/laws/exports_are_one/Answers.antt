use Rattle.wc_archive.proofs.OneExport.{exports_are_one}
use Rattle.wc_archive.proofs.laws.exports_are_one.Goals as goal

pub returns : goal.returns
returns c = exports_are_one
