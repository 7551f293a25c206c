use Rattle.wc_subworlds.proofs.Same.{parts_tell_the_same}
use Rattle.wc_subworlds.proofs.laws.parts_tell_the_same.Goals as goal

pub returns : goal.returns
returns c = parts_tell_the_same
