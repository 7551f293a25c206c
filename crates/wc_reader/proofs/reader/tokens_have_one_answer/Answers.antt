use Rattle.wc_reader.proofs.Whole.{one_library, one_answer, some_answer}
use Rattle.wc_reader.proofs.reader.tokens_have_one_answer.Goals as goal

pub returns-clause-library : goal.returns-clause-library
returns-clause-library c = one_library

pub returns-clause-one : goal.returns-clause-one
returns-clause-one c = one_answer

pub returns-clause-some : goal.returns-clause-some
returns-clause-some c = some_answer
