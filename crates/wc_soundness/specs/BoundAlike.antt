-- Children bound in a checkpoint's context, beside the binding of the run.
use Rattle.std.specs.Prelude.{◌≡◌, ℕ, Bool, List, map, Some}
use Rattle.wc_value.specs.Ascending.{lookup}
use Rattle.wc_state.specs.Context.{Pairs, found_at, with_set}
use Rattle.wc_state.specs.declared.environment.Child.{Child}
use Rattle.wc_state.specs.declared.environment.Item.{Item}
use Rattle.wc_semantics.specs.Run as run
use Rattle.wc_semantics.specs.Statements.{keyed}
use Rattle.wc_world.specs.World.{World}
use Rattle.wc_world.specs.Trees.{child_at, items_of}
use Rattle.wc_machine.specs.Calls as calling
use Rattle.wc_machine.specs.Rest.{child_alone, item_alone}

-- what keys hold, without the numbers of nodes
abbrev pub alone : List (List ℕ × Item) → List (List ℕ × Item)
alone items = map (λ e. (e.0, item_alone e.1)) items

-- A child that is bound in a checkpoint's context is bound alike in what is seen of it: with the child at its key, or behind the children there,
-- what the world then shows of the context is what the run has once it bound the child, but for the numbers of nodes.
pub record IsBoundAlike (w : World) (ctx : Pairs) (items : List (List ℕ × Item)) (key : List ℕ) (append : Bool) (pid : ℕ) (ch : Child) : Type 0 where
  pub new : List (List ℕ × Item)
  pub seen : items_of w (with_set ctx key (calling.joined append (found_at ctx key) pid)) ≡ Some new
  pub same : keyed key (run.joined append (lookup key (alone items)) (child_alone ch)) (alone items) ≡ alone new

-- Binding is the binding of the run.
abbrev pub BindsAsTheRun : Type 0
BindsAsTheRun = (w : World) (ctx : Pairs) (items : List (List ℕ × Item)) (key : List ℕ) (append : Bool) (pid : ℕ) (ch : Child) → items_of w ctx ≡ Some items
    → child_at w pid ≡ Some ch → IsBoundAlike w ctx items key append pid ch
