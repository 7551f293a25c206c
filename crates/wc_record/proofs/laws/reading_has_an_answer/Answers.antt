use Rattle.wc_record.proofs.Some.{some_reading}
use Rattle.wc_record.proofs.laws.reading_has_an_answer.Goals as goal

pub returns : goal.returns
returns c = some_reading
