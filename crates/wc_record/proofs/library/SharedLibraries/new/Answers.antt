use Rattle.wc_record.proofs.Shared.{none_printed}
use Rattle.wc_record.proofs.library.SharedLibraries.new.Goals as goal

pub invariant_of-result : goal.invariant_of-result
invariant_of-result c = none_printed c.new.result.entries c.new.ensures.empty
