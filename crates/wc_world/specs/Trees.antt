-- What a world records of a process: its tree, and the environment of its checkpoint.
use Rattle.std.specs.Prelude.{ℕ, zero, suc, if◌then◌else◌, List, [], ◌∷◌, Option, Some, None, option_map, option_and_then}
use Rattle.wc_value.specs.declared.process.Tree.{Tree, roll-Tree}
use Rattle.wc_value.specs.declared.value.Value.{Value}
use Rattle.wc_graph.specs.declared.link.Link.{Link}
use Rattle.wc_state.specs.declared.context.CtxRef.{CtxRef}
use Rattle.wc_state.specs.declared.context.CtxRef.TheVariants as held
use Rattle.wc_state.specs.declared.environment.Child.{Child}
use Rattle.wc_state.specs.declared.environment.Item.{Item}
use Rattle.wc_state.specs.declared.environment.Item.TheVariants as item
use Rattle.wc_state.specs.declared.environment.Env.{Env}
use Rattle.wc_state.specs.declared.record.Part.{Part}
use Rattle.wc_state.specs.declared.record.Part.TheVariants as part
use Rattle.wc_state.specs.declared.record.ProcessRecord.{ProcessRecord}
use Rattle.wc_world.specs.World.{World}
use Rattle.wc_world.specs.Records.{find_record, is_call_from}
pub use Rattle.wc_keys.specs.Values.{data_of, value_of, NamedValues, with_value, inputs_after, inputs_of, outputs_after, outputs_of, values_alone}

-- ---- trees

-- the tree of a call under its label
abbrev pub Branch : Type 0
Branch = List ℕ × Tree

-- one more call's tree in front of those of others, where all are there
abbrev pub and_branch : Option Tree → List ℕ → Option (List Branch) → Option (List Branch)
and_branch None label rest = None
and_branch (Some t) label None = None
and_branch (Some t) label (Some rest) = Some ((label, t) ∷ rest)

-- the called processes in order of the links, each under its label with its own tree
abbrev pub branches : (ℕ → Option Tree) → ℕ → List Link → Option (List Branch)
branches tree pid [] = Some []
branches tree pid (l ∷ ls) = if is_call_from pid l then and_branch (tree l.target) l.label (branches tree pid ls) else branches tree pid ls

-- the tree of a process with these outputs and calls
abbrev pub tree_with : ProcessRecord → List (List ℕ × Value) → List Branch → Tree
tree_with r outputs calls = roll-Tree (record { definition = r.definition; state = r.state; outputs = outputs; calls = calls })

-- the recorded tree of a process, where calls nest in at most so many levels
abbrev pub tree_within : ℕ → World → ℕ → Option Tree
tree_within zero w pid = None
tree_within (suc levels) w pid =
    option_and_then (λ r. option_map (tree_with r (values_alone (outputs_of w pid))) (branches (tree_within levels w) pid w.links))
    (find_record pid w.records)

-- Depths go from 1 to 16, and a call goes one deeper.
abbrev pub recorded_tree : World → ℕ → Option Tree
recorded_tree = tree_within 16

-- ---- environments

-- a called process, with its state and its outputs
abbrev pub child_at : World → ℕ → Option Child
child_at w pid = option_map (λ r. record { node = pid; state = r.state; outputs = outputs_of w pid }) (find_record pid w.records)

-- one more child in front of others, where all are there
abbrev pub and_child : Option Child → Option (List Child) → Option (List Child)
and_child None rest = None
and_child (Some c) None = None
and_child (Some c) (Some rest) = Some (c ∷ rest)

-- the called processes with these numbers, where all are there
abbrev pub children_at : World → List ℕ → Option (List Child)
children_at w [] = Some []
children_at w (pid ∷ pids) = and_child (child_at w pid) (children_at w pids)

-- what a key of a context holds, with the processes that it names
abbrev pub item_of : World → CtxRef → Option Item
item_of w (held.Plain v) = Some (item.Plain v)
item_of w (held.One pid) = option_map item.One (child_at w pid)
item_of w (held.Many pids) = option_map item.Many (children_at w pids)

-- one more key with what it holds in front of others, where all are there
abbrev pub and_item : List ℕ → Option Item → Option (List (List ℕ × Item)) → Option (List (List ℕ × Item))
and_item key None rest = None
and_item key (Some i) None = None
and_item key (Some i) (Some rest) = Some ((key, i) ∷ rest)

-- a context, with each process in the state and with the outputs that it has
abbrev pub items_of : World → List (List ℕ × CtxRef) → Option (List (List ℕ × Item))
items_of w [] = Some []
items_of w (e ∷ es) = and_item e.0 (item_of w e.1) (items_of w es)

-- a process without a checkpoint has an empty context
abbrev pub context_of : Part → List (List ℕ × CtxRef)
context_of part.Fresh = []
context_of (part.Chain c) = c.ctx
context_of (part.Job j) = []
context_of part.Over = []

-- the inputs of a process, and the context of its checkpoint
abbrev pub environment_at : World → ℕ → Option Env
environment_at w pid =
    option_and_then (λ r. option_map (λ ctx. record { inputs = inputs_of w pid; ctx = ctx }) (items_of w (context_of r.part)))
    (find_record pid w.records)
