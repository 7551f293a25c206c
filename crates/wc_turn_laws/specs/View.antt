-- What the node numbers of a checkpoint stand for.
use Rattle.std.specs.Prelude.{◌≡◌, ℕ, List, map, All}
use Rattle.wc_value.specs.declared.value.Value.{Value}
use Rattle.wc_state.specs.Context.{Pairs}
use Rattle.wc_state.specs.declared.context.CtxRef.{CtxRef}
use Rattle.wc_state.specs.declared.context.CtxRef.TheVariants as held
use Rattle.wc_state.specs.declared.environment.Child.{Child}
use Rattle.wc_state.specs.declared.environment.Env.{Env}
use Rattle.wc_state.specs.declared.environment.Item.{Item}
use Rattle.wc_state.specs.declared.environment.Item.TheVariants as item
use Rattle.wc_state.specs.declared.record.Checkpoint.{Checkpoint}
use Rattle.wc_semantics.specs.Rules.{Values}
use Rattle.wc_semantics.specs.declared.progress.Progress.{Progress}
use Rattle.wc_semantics.specs.Tables.{Label}
use Rattle.wc_world.specs.Trees.{NamedValues}
use Rattle.wc_machine.specs.Rest.{env_alone}
use Rattle.wc_turn_laws.specs.Instead.{MadeCalls}

-- the value of each data node, and what is seen of each called process
pub record View : Type 0 where
  pub value : ℕ → Value
  pub child : ℕ → Child

-- what a key holds, as a view shows its processes
abbrev pub item_in : View → CtxRef → Item
item_in v (held.Plain x) = item.Plain x
item_in v (held.One pid) = item.One (v.child pid)
item_in v (held.Many pids) = item.Many (map v.child pids)

-- a context, as a view shows its processes
abbrev pub context_in : View → Pairs → List (List ℕ × Item)
context_in v ctx = map (λ e. (e.0, item_in v e.1)) ctx

-- the values of outputs that were set
abbrev pub values_of : View → List (Label × ℕ) → Values
values_of v outputs = map (λ o. (o.0, v.value o.1)) outputs

-- the node of each entry has its value
abbrev pub AreSeen : View → NamedValues → Type 0
AreSeen v es = All (λ e. v.value e.1.node ≡ e.1.value) es

-- Data that an expression may name is seen as it stands in its node: each input, and each output of a called process.
pub record IsSeenRight (v : View) (es : NamedValues) : Type 0 where
  pub inputs : AreSeen v es
  pub children : (pid : ℕ) → AreSeen v (v.child pid).outputs

-- the environment with these inputs and this context
abbrev pub env_in : View → NamedValues → Pairs → Env
env_in v inputs ctx = record { inputs = inputs; ctx = context_in v ctx }

-- how far a chain is that stands at a checkpoint, with these inputs and these earlier calls
abbrev pub progress_in : View → NamedValues → MadeCalls → Checkpoint → Progress
progress_in v inputs calls c = record { env = env_alone (env_in v inputs c.ctx); outputs = values_of v c.outputs; calls = calls }
