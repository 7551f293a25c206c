use Rattle.wc_parser.proofs.Writable.{files_are_writable}
use Rattle.wc_parser.proofs.laws.files_are_writable.Goals as goal

pub returns : goal.returns
returns c = files_are_writable
