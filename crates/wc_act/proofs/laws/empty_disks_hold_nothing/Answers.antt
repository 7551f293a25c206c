use Rattle.std.proofs.Common.{[], inl, refl}
use Rattle.wc_store.specs.Choices.{chosen}
use Rattle.wc_store.specs.Held.{IsHeld, nothing}
use Rattle.wc_act.proofs.laws.empty_disks_hold_nothing.Goals as goal

empty_hold : IsHeld [] [] nothing
unfolding chosen
empty_hold = refl

pub returns-clause-nothing : goal.returns-clause-nothing
returns-clause-nothing c = empty_hold

pub returns-clause-meets : goal.returns-clause-meets
returns-clause-meets c = inl empty_hold
