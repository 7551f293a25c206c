-- What an advance comes to, as changes.
use Rattle.std.specs.Prelude.{◌≤◌, ℕ, ◌+◌, ◌==◌, Bool, false, not, ◌&&◌, if◌then◌else◌, List, [], ◌∷◌, ◌++◌, length, map, is_none, Option, Some, None}
use Rattle.std.specs.List.{list_any}
use Rattle.wc_value.specs.Ascending.{lookup}
use Rattle.wc_value.specs.declared.process.ProcessState.{ProcessState}
use Rattle.wc_value.specs.declared.process.ProcessState.TheVariants as state
use Rattle.wc_syntax.specs.Findings.{head_of, definition_named}
use Rattle.wc_syntax.specs.declared.definition.Definition.{Definition}
use Rattle.wc_syntax.specs.declared.definition.Port.{Port}
use Rattle.wc_graph.specs.declared.link.LinkType.TheVariants as link
use Rattle.wc_state.specs.declared.record.Checkpoint.{Checkpoint}
use Rattle.wc_state.specs.declared.record.Part.{Part}
use Rattle.wc_state.specs.declared.record.Part.TheVariants as part
use Rattle.wc_state.specs.declared.record.ProcessRecord.{ProcessRecord}
use Rattle.wc_outline.specs.declared.calls.Advanced.{Advanced}
use Rattle.wc_outline.specs.declared.calls.Advanced.TheVariants as advanced
use Rattle.wc_outline.specs.declared.calls.Call.{Call}
use Rattle.wc_world.specs.World.{empty}
use Rattle.wc_world.specs.declared.change.Change.{Change}
use Rattle.wc_world.specs.declared.change.Change.TheVariants as change
use Rattle.wc_machine.specs.Calls.{chain_set}
use Rattle.wc_machine.specs.Tasks.{saturated}
use Rattle.wc_changes.specs.declared.children.Caller.{Caller}
use Rattle.wc_changes.specs.Called.{all_calls, waited}

-- what a chain is from now on, whatever the world
abbrev pub is_now : ProcessRecord → ProcessState → ℕ → Part → Change
is_now = chain_set empty

-- ---- ends

-- outputs by label
abbrev pub Outs : Type 0
Outs = List (List ℕ × ℕ)

-- a required output that is missing
abbrev pub is_missing : Outs → Port → Bool
is_missing outputs p = not p.optional && is_none (lookup p.name.text outputs)

-- whether a required output is missing
abbrev pub lacks : Outs → Option Definition → Bool
lacks outputs None = false
lacks outputs (Some d) = list_any (is_missing outputs) (head_of d).outputs

-- an end with 0 and a required output missing is one with 11
abbrev pub status : Bool → ℕ → ℕ
status missing n = if (n == 0) && missing then 11 else n

-- the state at the end: 11 in place of 0 where a required output is missing
abbrev pub final : Bool → ProcessState → ProcessState
final missing (state.Finished n) = state.Finished (status missing n)
final missing s = s

-- the link that returns an output
abbrev pub return_link : ℕ → List ℕ × ℕ → Change
return_link pid o = change.Link (record { source = pid; target = o.1; link = link.Return; label = o.0 })

-- only a chain that finished has outputs
abbrev pub returned : ℕ → ProcessState → Outs → List Change
returned pid (state.Finished n) outputs = map (return_link pid) outputs
returned pid s outputs = []

-- the changes of an advance that ends the chain: its outputs are returned, and its state is set, 11 in place of 0 where a required output is missing
abbrev pub ending : ProcessRecord → Bool → ProcessState → Outs → List Change
ending r missing s outputs = returned r.node s outputs ++ is_now r (final missing s) r.fuel part.Over ∷ []

-- ---- calls

-- the checkpoint of a chain that waits for calls, where this is the next number
abbrev pub waiting : ℕ → Checkpoint → List Call → Checkpoint
waiting next c calls = record { frames = c.frames; ctx = c.ctx; awaiting = waited next calls; calls = c.calls + length calls; outputs = c.outputs }

-- the changes of an advance that submits calls: those of the calls, and the chain that waits
abbrev pub submission : Caller → ℕ → Checkpoint → List Call → List Change
submission x next c calls = all_calls x next calls ++ is_now x.process.now state.Waiting x.process.now.fuel (part.Chain (waiting next c calls)) ∷ []

-- ---- all

-- the changes of what an advance answers, where this is the next number
abbrev pub comes_to : Caller → ℕ → Advanced → List Change
comes_to x next (advanced.Goes c) = is_now x.process.now state.Running x.process.now.fuel (part.Chain c) ∷ []
comes_to x next (advanced.Loops c) = is_now x.process.now state.Running (saturated (x.process.now.fuel + 1)) (part.Chain c) ∷ []
comes_to x next (advanced.Submits c calls) = submission x next c calls
comes_to x next (advanced.Ends s outputs) = ending x.process.now (lacks outputs (definition_named x.process.now.definition x.library.now)) s outputs

-- a chain that calls has called at most as many processes as there may be nodes
abbrev pub CallsFew : Advanced → Type 0
CallsFew (advanced.Goes c) = Unit {0}
CallsFew (advanced.Loops c) = Unit {0}
CallsFew (advanced.Submits c calls) = c.calls ≤ 8000001
CallsFew (advanced.Ends s outputs) = Unit {0}
