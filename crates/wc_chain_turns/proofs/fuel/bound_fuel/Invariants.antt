use Rattle.std.proofs.Common.{◌≡◌, ◌+◌, ◌<◌, ◌^◌, drop}
use Rattle.wc_machine.specs.Calls.{fuel_of}
use Rattle.wc_machine.specs.Tasks.{saturated}
use Rattle.wc_chain_turns.proofs.fuel.bound_fuel.Given as goal

abbrev pub invariant-loop-awaited : goal.invariant-loop-awaited
invariant-loop-awaited l = record {
  sum : saturated (l.sum + fuel_of l.world.world.records (drop l.awaited-index l.awaited-items)) ≡ saturated (l.fuel + fuel_of l.world.world.records l.awaited-items);
  fits : l.sum < 2 ^ 64;
}
