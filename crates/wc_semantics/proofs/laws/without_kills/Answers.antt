use Rattle.wc_semantics.proofs.Uncut.{meaning_uncut}
use Rattle.wc_semantics.proofs.laws.without_kills.Goals as goal

pub returns : goal.returns
returns c = meaning_uncut
