use Rattle.wc_record.proofs.Whole.{read_is_written}
use Rattle.wc_record.proofs.laws.what_is_read_is_written.Goals as goal

pub returns : goal.returns
returns c = read_is_written
