use Rattle.std.proofs.Common.{◌+◌, refl}
use Rattle.wc_semantics.proofs.Keeps.{meaning_more}
use Rattle.wc_semantics.proofs.Leaves.{meaning_leaves, around_frugal}
use Rattle.wc_semantics.proofs.laws.fuel.Goals as goal

pub returns-clause-more : goal.returns-clause-more
returns-clause-more c levels library table kills n k name inputs = meaning_more levels library table kills n (n + k) k name inputs refl

pub returns-clause-left : goal.returns-clause-left
returns-clause-left c = meaning_leaves

pub returns-clause-calls : goal.returns-clause-calls
returns-clause-calls c = around_frugal
