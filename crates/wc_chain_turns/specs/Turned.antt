-- The turn of a work chain.
use Rattle.std.specs.Prelude.{◌≡◌, ℕ, true, List, Some}
use Rattle.wc_state.specs.declared.record.Checkpoint.{Checkpoint}
use Rattle.wc_state.specs.declared.record.Part.{Part}
use Rattle.wc_state.specs.declared.record.Part.TheVariants as part
use Rattle.wc_state.specs.declared.record.ProcessKind.TheVariants as kind
use Rattle.wc_state.specs.declared.record.ProcessRecord.{ProcessRecord}
use Rattle.wc_world.specs.Consistent.{IsConsistent}
use Rattle.wc_world.specs.Records.{find_record}
use Rattle.wc_world.specs.World.{World}
use Rattle.wc_world.specs.declared.change.Change.{Change}
use Rattle.wc_machine.specs.declared.answer.TaskAnswer.TheVariants as answer
use Rattle.wc_machine.specs.Readiness.{is_ready}
use Rattle.wc_machine.specs.Turns.{TurnGives}

-- These are the changes of a turn that asks nothing, at every moment and with every interval of polls.
abbrev pub Gives : World → ProcessRecord → List Change → Type 0
Gives w r cs = (poll now : ℕ) → TurnGives poll now w r answer.Nothing cs

-- the process is ready, at some moment
abbrev pub IsReadyOnce : World → ProcessRecord → Type 0
IsReadyOnce w r = (now : ℕ) × (is_ready w now r ≡ true)

-- A consistent world has the work chain.
pub record HasChain (w : World) (r : ProcessRecord) : Type 0 where
  pub consistent : IsConsistent w
  pub found : find_record r.node w.records ≡ Some r
  pub chain : r.kind ≡ kind.Chain

-- a chain that has begun stands at a checkpoint
abbrev pub HasCheckpoint : Part → Type 0
HasCheckpoint p = (c : Checkpoint) × (p ≡ part.Chain c)
