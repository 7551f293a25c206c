use Rattle.std.proofs.Common.{◌≡◌, ◌++◌, drop}
use Rattle.wc_world.specs.Accepted.{is_in_order, kepts}
use Rattle.wc_world.specs.Order.{may_follow}
use Rattle.wc_world.specs.Slots.{slots_in}
use Rattle.wc_world.proofs.slots.found_in.Given as goal

abbrev pub invariant-loop-change : goal.invariant-loop-change
invariant-loop-change l = record {
  ordered : may_follow l.order (drop l.change-index l.changes) ≡ is_in_order l.changes;
  slots : l.slots.items ++ slots_in (drop l.change-index l.changes) ≡ slots_in l.changes;
  kepts : l.kepts.items ++ kepts (drop l.change-index l.changes) ≡ kepts l.changes;
}
