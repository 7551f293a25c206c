use Rattle.std.proofs.Common.{◌≡◌, ◌+◌, ◌*◌, ◌<◌, ◌^◌, drop}
use Rattle.wc_machine.specs.Kills.{awaited_fuel}
use Rattle.wc_machine.specs.Tasks.{saturated}
use Rattle.wc_core.proofs.KillParts.{fuel_by}
use Rattle.wc_core.proofs.fuel.+fuel.Given as goal

abbrev pub decreases-fuel_after : goal.decreases-fuel_after
decreases-fuel_after l = 3 * l.levels

abbrev pub decreases-fuel_at : goal.decreases-fuel_at
decreases-fuel_at l = 3 * l.levels + 1

abbrev pub decreases-with_awaited : goal.decreases-with_awaited
decreases-with_awaited l = 3 * l.levels + 2

abbrev pub invariant-with_awaited-loop-awaited : goal.invariant-with_awaited-loop-awaited
invariant-with_awaited-loop-awaited l = record {
  fits : l.sum < 2 ^ 64;
  rest : saturated (l.sum + awaited_fuel (fuel_by l.levels l.world.world) (drop l.awaited-index l.awaiting))
      ≡ saturated (l.fuel + awaited_fuel (fuel_by l.levels l.world.world) l.awaiting);
}
