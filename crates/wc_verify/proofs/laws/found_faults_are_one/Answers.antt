use Rattle.wc_verify.proofs.Unique.{one_least_disagreement, one_least_on_cycle, one_lowest_wrong, right_or_wrong}
use Rattle.wc_verify.proofs.laws.found_faults_are_one.Goals as goal

pub returns : goal.returns
returns c = record {
  cycles = λ w n m p q. one_least_on_cycle w.links n m p q;
  values = one_lowest_wrong;
  right = right_or_wrong;
  results = one_least_disagreement;
}
