use Rattle.std.proofs.Common.{subst}
use Rattle.wc_value.specs.Reading.{Answers}
use Rattle.wc_value.proofs.Readback.{all_read, found_by}
use Rattle.wc_decoding.proofs.decoding.decode.Goals as goal

pub returns-clause-found : goal.returns-clause-found
returns-clause-found c = found_by _ _ (λ i. (c.type_inv.bytes i).fits) c.value_of_all.ensures

pub returns-clause-only : goal.returns-clause-only
returns-clause-only c v s deep = subst (Answers c.value_of_all.result) (all_read _ v s deep) c.value_of_all.ensures
