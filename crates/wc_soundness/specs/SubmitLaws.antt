-- Laws of the turns at which a work chain submits calls.
use Rattle.std.specs.Prelude.{◌≡◌, ◌<◌, ℕ, suc, List, length, Some}
use Rattle.wc_syntax.specs.declared.definition.Chain.{Chain}
use Rattle.wc_syntax.specs.declared.definition.Definition.{Definition}
use Rattle.wc_syntax.specs.declared.definition.Port.{Port}
use Rattle.wc_state.specs.declared.environment.Env.{Env}
use Rattle.wc_state.specs.declared.record.Checkpoint.{Checkpoint}
use Rattle.wc_state.specs.declared.record.ProcessRecord.{ProcessRecord}
use Rattle.wc_world.specs.Accepted.{IsAccepted}
use Rattle.wc_world.specs.Applied.{applied}
use Rattle.wc_world.specs.Consistent.{IsConsistent}
use Rattle.wc_world.specs.Records.{find_record}
use Rattle.wc_world.specs.World.{World}
use Rattle.wc_machine.specs.Advances.{advance, submits}
use Rattle.wc_machine.specs.Calls.{advanced, called_number}
use Rattle.wc_machine.specs.Laws.{HasPlaces}
use Rattle.wc_machine.specs.Recorded.{recorded_inputs}
use Rattle.wc_machine.specs.Sound.{IsCaller}
use Rattle.wc_machine.specs.Steps.{Call, values_in}
use Rattle.wc_soundness.specs.Touches.{IsSoundRecord, Touches}
use Rattle.wc_soundness.specs.BindingLaws.{KeepsSound}
use Rattle.wc_soundness.specs.TrackLaws.{IsAtTurn, IsSoundChain, after_turn}
use Rattle.wc_soundness.specs.Submitted.{EachCall, child_record, first_free, now_waits, submitted}

-- The changes of calls make this world, whatever the ports of the chain, where the world before is consistent and has the chain.
abbrev pub CallsMakeTheseWorlds : Type 0
CallsMakeTheseWorlds = (w : World) (r : ProcessRecord) (ports : List Port) (d : Checkpoint) (calls : List Call) → IsConsistent w → find_record r.node w.records ≡ Some r
    → applied w (advanced w r ports (submits d calls)) ≡ submitted w r d calls

-- A world has the process of a call, where this is the next number before it: created, under the label of the call, one level deeper than the
-- chain that called it, whose record is now this one, and with the values of the arguments as its inputs, by port.
pub record IsCalledWith (w v : World) (r chain : ProcessRecord) (next : ℕ) (c : Call) : Type 0 where
  pub found : find_record (called_number w r next c) v.records ≡ Some (child_record w r next c)
  pub deeper : (child_record w r next c).depth ≡ suc r.depth
  pub caller : IsCaller v (child_record w r next c) chain
  pub inputs : recorded_inputs v (called_number w r next c) ≡ values_in c.args

-- So has the world after the calls of a chain at its turn, for each call.
abbrev pub CalledHaveTheirInputs : Type 0
CalledHaveTheirInputs = (w : World) (r : ProcessRecord) (k : Chain) (library : List Definition) (c d : Checkpoint) (env : Env) (calls : List Call)
    → IsAtTurn w r k library c env → advance library k r.depth env c ≡ submits d calls
    → EachCall w r (IsCalledWith w (after_turn w r k (submits d calls)) r (now_waits w r d calls)) (first_free w r) calls

-- The world accepts the calls of a chain, where there is room for the nodes and the batch after them.
abbrev pub ChainCallsAreAccepted : Type 0
ChainCallsAreAccepted = (w : World) (r : ProcessRecord) (k : Chain) (library : List Definition) (c d : Checkpoint) (env : Env) (calls : List Call)
    → IsAtTurn w r k library c env → advance library k r.depth env c ≡ submits d calls → HasPlaces w (length (after_turn w r k (submits d calls)).nodes)
    → IsAccepted w (advanced w r k.head.outputs (submits d calls))

-- They touch the chain alone, and make new processes.
abbrev pub ChainCallsTouch : Type 0
ChainCallsTouch = (w : World) (r : ProcessRecord) (k : Chain) (library : List Definition) (c d : Checkpoint) (env : Env) (calls : List Call)
    → IsAtTurn w r k library c env → advance library k r.depth env c ≡ submits d calls → Touches w (after_turn w r k (submits d calls)) r.node

-- Each new process is as a sound world asks.
abbrev pub CalledAreSound : Type 0
CalledAreSound = (w : World) (r : ProcessRecord) (k : Chain) (library : List Definition) (c d : Checkpoint) (env : Env) (calls : List Call)
    → IsAtTurn w r k library c env → advance library k r.depth env c ≡ submits d calls → (s : ProcessRecord)
    → find_record s.node (after_turn w r k (submits d calls)).records ≡ Some s → length w.nodes < s.node → IsSoundRecord (after_turn w r k (submits d calls)) s

-- So where the record of the chain is as a sound world asks of a live one, its turn keeps the world sound.
abbrev pub SubmittingChainsKeepSound : Type 0
SubmittingChainsKeepSound = (w : World) (r : ProcessRecord) (k : Chain) (library : List Definition) (c d : Checkpoint) (env : Env) (calls : List Call)
    → IsAtTurn w r k library c env → advance library k r.depth env c ≡ submits d calls → HasPlaces w (length (after_turn w r k (submits d calls)).nodes)
    → IsSoundChain (after_turn w r k (submits d calls)) (now_waits w r d calls) → KeepsSound w (advanced w r k.head.outputs (submits d calls))
