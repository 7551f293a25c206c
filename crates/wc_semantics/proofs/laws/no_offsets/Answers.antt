use Rattle.wc_semantics.proofs.Bare.{meaning_bare}
use Rattle.wc_semantics.proofs.laws.no_offsets.Goals as goal

pub returns : goal.returns
returns c = meaning_bare
