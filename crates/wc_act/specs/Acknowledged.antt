-- What an event that is acknowledged leaves.
use Rattle.std.specs.Prelude.{◌≡◌, ℕ, Bool, false, true, Some}
use Rattle.wc_syntax.specs.Findings.{definition_named, is_among}
use Rattle.wc_syntax.specs.declared.definition.Definition.{Definition}
use Rattle.wc_value.specs.declared.process.ProcessState.TheVariants as state
use Rattle.wc_state.specs.declared.record.ProcessRecord.{ProcessRecord}
use Rattle.wc_world.specs.World.{World}
use Rattle.wc_world.specs.Records.{find_record, has_ended, kind_of_definition, library_at}
use Rattle.wc_drill.specs.Soundness.Killed.{IsAtOrBelow}
use Rattle.wc_machine.specs.Calls.{caching_in}
use Rattle.wc_machine.specs.Recorded.{recorded_inputs}
use Rattle.wc_plan.specs.declared.submission.Submission.{Submission}

-- The process of this number runs the submission's definition, of its library and with its inputs, at depth 1. Its library is kept with the
-- submission's names with caching on, and its caching is on where its definition's name is among them.
pub record HasProcess (w : World) (pid : ℕ) (s : Submission) : Type 0 where
  pub process : ProcessRecord
  pub found : find_record pid w.records ≡ Some process
  pub kind : (d : Definition) → definition_named s.name s.library ≡ Some d → process.kind ≡ kind_of_definition d
  pub first : process.depth ≡ 1
  pub library : library_at w.libraries process.library ≡ Some s.library
  pub names : caching_in w.libraries process.library ≡ s.caching
  pub name : process.definition ≡ s.name
  pub inputs : recorded_inputs w pid ≡ s.inputs
  pub caching : process.caching ≡ is_among s.name s.caching

-- The process of this number lives, and has the pause mark, or hasn't.
pub record HasMark (w : World) (pid : ℕ) (paused : Bool) : Type 0 where
  pub process : ProcessRecord
  pub found : find_record pid w.records ≡ Some process
  pub live : has_ended process.state ≡ false
  pub mark : process.paused ≡ paused

-- The process of this number is killed, and each that it called, directly or through calls, has ended.
pub record IsKilled (w : World) (pid : ℕ) : Type 0 where
  pub process : ProcessRecord
  pub found : find_record pid w.records ≡ Some process
  pub killed : process.state ≡ state.Killed
  pub below : (x : ProcessRecord) → IsAtOrBelow w process x → has_ended x.state ≡ true
