-- What may happen at a world, said without the changes.
use Rattle.std.specs.Prelude.{◌≡◌, ℕ, true, false, List, Some, None}
use Rattle.wc_syntax.specs.Findings.{head_of, definition_named}
use Rattle.wc_syntax.specs.declared.definition.Definition.{Definition}
use Rattle.wc_semantics.specs.Rules.{Values}
use Rattle.wc_machine.specs.Inputs.{bad_input}
use Rattle.wc_state.specs.declared.record.ProcessRecord.{ProcessRecord}
use Rattle.wc_world.specs.World.{World}
use Rattle.wc_world.specs.Fits.{names_ascend}
use Rattle.wc_world.specs.Records.{find_record, has_ended}
use Rattle.wc_machine.specs.declared.answer.TaskAnswer.{TaskAnswer}
use Rattle.wc_machine.specs.Questions.{need, fits}
use Rattle.wc_machine.specs.Machine.{Event, submit, turn, pause, play, kill}
use Rattle.wc_machine.specs.Readiness.{is_ready}
use Rattle.wc_machine.specs.Submissions.{AreInputs, IsKeptLibrary}

-- The library is a checked one and has a definition of the name, whose ports take the inputs; the names with caching on ascend; and the inputs
-- ascend by their ports and are at most 32 deep.
pub record MaySubmit (library : List Definition) (caching : List (List ℕ)) (name : List ℕ) (inputs : Values) : Type 0 where
  pub checked : IsKeptLibrary library
  pub names : names_ascend caching ≡ true
  pub values : AreInputs inputs
  pub definition : Definition
  pub is_there : definition_named name library ≡ Some definition
  pub takes : bad_input (head_of definition).inputs inputs ≡ None

-- The process is there and ready at the moment, and the answer fits what it asks.
pub record MayTurn (w : World) (pid : ℕ) (a : TaskAnswer) (now : ℕ) : Type 0 where
  pub process : ProcessRecord
  pub found : find_record pid w.records ≡ Some process
  pub ready : is_ready w now process ≡ true
  pub answered : fits (need w process) a ≡ true

-- The process is there and lives.
pub record HasLive (w : World) (pid : ℕ) : Type 0 where
  pub process : ProcessRecord
  pub found : find_record pid w.records ≡ Some process
  pub live : has_ended process.state ≡ false

-- What may happen: a submission that fits, a turn of a ready process with an answer that fits, a pause, a play or a kill of a live process.
abbrev pub MayHappen : World → Event → Type 0
MayHappen w (submit library caching name inputs) = MaySubmit library caching name inputs
MayHappen w (turn pid a now) = MayTurn w pid a now
MayHappen w (pause pid) = HasLive w pid
MayHappen w (play pid) = HasLive w pid
MayHappen w (kill pid) = HasLive w pid
