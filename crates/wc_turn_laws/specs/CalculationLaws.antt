-- Laws of calculations: what equal keys say, and which ones may start.
use Rattle.std.specs.Prelude.{◌≡◌, true, Some}
use Rattle.wc_value.specs.declared.process.ProcessState.TheVariants as state
use Rattle.wc_state.specs.declared.record.ProcessRecord.{ProcessRecord}
use Rattle.wc_world.specs.World.{World}
use Rattle.wc_world.specs.Records.{find_record, is_calculation}
use Rattle.wc_machine.specs.Recorded.{its_definition}
use Rattle.wc_machine.specs.Sound.{IsSound}
use Rattle.wc_machine.specs.Sources.{HaveEqualKeys}

-- Processes with equal keys run equal definitions.
abbrev pub EqualKeysRunAlike : Type 0
EqualKeysRunAlike = (w : World) (p q : ProcessRecord) → IsSound w → HaveEqualKeys w p q → its_definition w p ≡ its_definition w q

-- a calculation of the world that is created
pub record MayStart (w : World) (r : ProcessRecord) : Type 0 where
  pub found : find_record r.node w.records ≡ Some r
  pub calculates : is_calculation r.kind ≡ true
  pub created : r.state ≡ state.Created
