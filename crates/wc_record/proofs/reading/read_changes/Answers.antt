use Rattle.wc_record.proofs.Whole.{found_by, only_by}
use Rattle.wc_record.proofs.reading.read_changes.Goals as goal

pub returns-clause-found : goal.returns-clause-found
returns-clause-found c = found_by _ _ (λ i. (c.type_inv.bytes i).fits) c.changes_of_all.ensures

pub returns-clause-only : goal.returns-clause-only
returns-clause-only c = only_by _ _ c.changes_of_all.ensures
