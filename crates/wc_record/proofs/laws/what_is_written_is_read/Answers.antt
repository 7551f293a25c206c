use Rattle.wc_record.proofs.Whole.{written_is_read}
use Rattle.wc_record.proofs.laws.what_is_written_is_read.Goals as goal

pub returns : goal.returns
returns c = written_is_read
