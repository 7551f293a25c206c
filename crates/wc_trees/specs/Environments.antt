-- The environment of a process with a context that is given.
use Rattle.std.specs.Prelude.{ℕ, Option, option_map}
use Rattle.wc_state.specs.Context.{Pairs}
use Rattle.wc_state.specs.declared.environment.Env.{Env}
use Rattle.wc_world.specs.World.{World}
use Rattle.wc_world.specs.Trees.{inputs_of, items_of}

-- the inputs of a process, and the context with each process in the state and with the outputs that it has
abbrev pub environment_in : World → ℕ → Pairs → Option Env
environment_in w pid ctx = option_map (λ items. record { inputs = inputs_of w pid; ctx = items }) (items_of w ctx)
