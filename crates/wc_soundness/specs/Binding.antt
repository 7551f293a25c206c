-- A work chain that waits and may go on.
use Rattle.std.specs.Prelude.{◌≡◌, true, Some}
use Rattle.std.specs.List.{list_all}
use Rattle.wc_value.specs.declared.process.ProcessState.TheVariants as state
use Rattle.wc_syntax.specs.declared.definition.Chain.{Chain}
use Rattle.wc_syntax.specs.declared.definition.Definition.TheVariants as definition
use Rattle.wc_state.specs.declared.record.Checkpoint.{Checkpoint}
use Rattle.wc_state.specs.declared.record.Part.TheVariants as part
use Rattle.wc_state.specs.declared.record.ProcessRecord.{ProcessRecord}
use Rattle.wc_world.specs.World.{World}
use Rattle.wc_world.specs.Records.{find_record}
use Rattle.wc_machine.specs.Readiness.{ended_at}
use Rattle.wc_machine.specs.Recorded.{its_definition}

-- A process runs this chain, waits at this checkpoint, and each child that it awaits has ended.
pub record Waits (w : World) (r : ProcessRecord) (k : Chain) (c : Checkpoint) : Type 0 where
  pub found : find_record r.node w.records ≡ Some r
  pub definition : its_definition w r ≡ Some (definition.Chain k)
  pub state : r.state ≡ state.Waiting
  pub part : r.part ≡ part.Chain c
  pub through : list_all (λ a. ended_at w.records a.pid) c.awaiting ≡ true
