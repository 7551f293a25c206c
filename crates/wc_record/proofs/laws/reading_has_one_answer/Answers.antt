use Rattle.wc_record.proofs.Unique.{whole_unique}
use Rattle.wc_record.proofs.laws.reading_has_one_answer.Goals as goal

pub returns : goal.returns
returns c = whole_unique
