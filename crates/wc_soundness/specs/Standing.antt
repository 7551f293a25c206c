-- Checkpoints that fit a work chain, and what an advance hands on.
use Rattle.std.specs.Prelude.{◌≡◌, ◌≤◌, true, not, All}
use Rattle.std.specs.List.{list_all}
use Rattle.wc_value.specs.Spelling.{depth}
use Rattle.wc_syntax.specs.declared.definition.Chain.{Chain}
use Rattle.wc_state.specs.declared.context.CtxRef.{CtxRef}
use Rattle.wc_state.specs.declared.context.CtxRef.TheVariants as held
use Rattle.wc_state.specs.declared.record.Checkpoint.{Checkpoint}
use Rattle.wc_world.specs.Blocks.{block_lengths}
use Rattle.wc_world.specs.Fits.{is_nil, frame_fits}
use Rattle.wc_machine.specs.Advances.{Advanced, goes, loops, submits, ends}
use Rattle.wc_machine.specs.Steps.{Argument, node, plain, Call}

-- there is a frame, and each is in the outline
abbrev pub StandsIn : Chain → Checkpoint → Type 0
StandsIn k c = (not (is_nil c.frames) ≡ true) × (list_all (frame_fits (block_lengths k.outline)) c.frames ≡ true)

-- the checkpoint behind an advance stands in the chain's outline; of an advance that ends the chain nothing is asked
abbrev pub StandsAfter : Chain → Advanced → Type 0
StandsAfter k (goes d) = StandsIn k d
StandsAfter k (loops d) = StandsIn k d
StandsAfter k (submits d calls) = StandsIn k d
StandsAfter k (ends s outputs) = Unit {0}

-- a value that a key holds is at most 32 deep
abbrev pub IsLow : CtxRef → Type 0
IsLow (held.Plain v) = depth v ≤ 32
IsLow (held.One pid) = Unit {0}
IsLow (held.Many pids) = Unit {0}

-- the values that a checkpoint's context holds are at most 32 deep
abbrev pub AreLow : Checkpoint → Type 0
AreLow c = All (λ e. IsLow e.1) c.ctx

-- so is one that a call is given
abbrev pub IsLowArgument : Argument → Type 0
IsLowArgument (node n) = Unit {0}
IsLowArgument (plain v) = depth v ≤ 32

-- the new values that a call passes are at most 32 deep
abbrev pub AreLowIn : Call → Type 0
AreLowIn c = All (λ e. IsLowArgument e.1) c.args

-- the values in the context behind an advance, and those that its calls pass, are at most 32 deep; of an advance that ends the chain nothing is asked
abbrev pub AreLowAfter : Advanced → Type 0
AreLowAfter (goes d) = AreLow d
AreLowAfter (loops d) = AreLow d
AreLowAfter (submits d calls) = AreLow d × All AreLowIn calls
AreLowAfter (ends s outputs) = Unit {0}
