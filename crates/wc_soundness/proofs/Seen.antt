-- What is recorded of small worlds, and a kill, by computation.
use Rattle.std.proofs.Common.{refl}
use Rattle.wc_machine.specs.Machine as machine
use Rattle.wc_soundness.specs.FanWorlds as fans
use Rattle.wc_soundness.specs.SmallLaws.{FanIsSeen, KillGoes}

pub fan_is_seen : FanIsSeen
fan_is_seen = record {
  created = refl;
  called = refl;
  half = refl;
  ready = refl;
  bound = refl;
  done = refl;
  ended = refl;
  tree_at_half = refl;
  tree = refl;
  kill_of_chain = refl;
  first_kill = refl;
}

pub kill_goes : KillGoes
kill_goes = record {
  kills_both = record { leads = machine.kills fans.fan_waits (record { found = refl; live = refl }); after = refl };
  ready = refl;
  tree = refl;
  kill_of_chain = refl;
  first_kill = refl;
  second_kill = refl;
}
