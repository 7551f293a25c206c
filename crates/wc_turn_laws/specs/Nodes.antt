-- What holds of each node that an environment or an advance names.
use Rattle.std.specs.Prelude.{ℕ, All}
use Rattle.wc_state.specs.declared.context.CtxRef.{CtxRef}
use Rattle.wc_state.specs.declared.environment.Env.{Env}
use Rattle.wc_state.specs.declared.environment.Item.{Item}
use Rattle.wc_state.specs.declared.environment.Item.TheVariants as item
use Rattle.wc_state.specs.declared.environment.NodeValue.{NodeValue}
use Rattle.wc_state.specs.declared.record.Checkpoint.{Checkpoint}
use Rattle.wc_world.specs.Trees.{NamedValues}
use Rattle.wc_machine.specs.Advances.{Advanced, goes, loops, submits, ends}
use Rattle.wc_machine.specs.Steps.{Argument, node, plain, Call}

-- something holds of each of these nodes
abbrev pub EachNode : (NodeValue → Type 0) → NamedValues → Type 0
EachNode P es = All (λ e. P e.1) es

-- something holds of each node that a key's children have as outputs
abbrev pub InItem : (NodeValue → Type 0) → Item → Type 0
InItem P (item.Plain v) = Unit {0}
InItem P (item.One c) = EachNode P c.outputs
InItem P (item.Many cs) = All (λ c. EachNode P c.outputs) cs

-- each input of an environment, and each output of a called process in it
pub record NodesAre (P : NodeValue → Type 0) (env : Env) : Type 0 where
  pub given : EachNode P env.inputs
  pub items : All (λ e. InItem P e.1) env.ctx

-- an argument that is a node
abbrev pub InArgument : (NodeValue → Type 0) → Argument → Type 0
InArgument P (node n) = P n
InArgument P (plain v) = Unit {0}

-- something holds of each node that a call passes
abbrev pub InCall : (NodeValue → Type 0) → Call → Type 0
InCall P c = All (λ e. InArgument P e.1) c.args

module _ (P : NodeValue → Type 0) (Q : CtxRef → Type 0) (R : ℕ → Type 0) where
  -- what the keys of a checkpoint hold, and the nodes of its outputs
  abbrev pub Holds : Checkpoint → Type 0
  Holds c = All (λ e. Q e.1) c.ctx × All (λ o. R o.1) c.outputs

  -- what an advance leaves, and the nodes that it passes to calls
  abbrev pub HoldsAfter : Advanced → Type 0
  HoldsAfter (goes d) = Holds d
  HoldsAfter (loops d) = Holds d
  HoldsAfter (submits d calls) = Holds d × All (InCall P) calls
  HoldsAfter (ends s outputs) = All (λ o. R o.1) outputs
