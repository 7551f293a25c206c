-- What a live process still does, and when that is on track.
use Rattle.std.specs.Prelude.{◌≡◌, ℕ, ◌+◌, ◌-◌, ◌<◌, ◌==◌, Bool, true, false, not, ◌&&◌, List, [], ◌∷◌, length, map, take, Option, Some, None, option_map}
use Rattle.std.specs.List.{list_any}
use Rattle.std.specs.Str.{bytes_eq}
use Rattle.wc_value.specs.declared.process.ProcessState.TheVariants as state
use Rattle.wc_value.specs.declared.process.Tree.{Tree, out-Tree}
use Rattle.wc_value.specs.declared.value.Value.{Value}
use Rattle.wc_syntax.specs.declared.definition.Chain.{Chain}
use Rattle.wc_syntax.specs.declared.definition.Definition.{Definition}
use Rattle.wc_syntax.specs.declared.definition.Definition.TheVariants as definition
use Rattle.wc_semantics.specs.Rules.{Values}
use Rattle.wc_semantics.specs.declared.progress.Answer.{Answer}
use Rattle.wc_semantics.specs.declared.progress.Answer.TheVariants.{Gave}
use Rattle.wc_semantics.specs.declared.progress.Planned.{Planned}
use Rattle.wc_semantics.specs.declared.progress.Progress.{Progress}
use Rattle.wc_semantics.specs.declared.progress.Replayed.{Replayed}
use Rattle.wc_semantics.specs.Tables.{Label, Path, Table, Kills}
use Rattle.wc_semantics.specs.Run.{Around, run, make_calls, ◌>->◌}
use Rattle.wc_semantics.specs.Meaning.{within, around, ended, meaning}
use Rattle.wc_state.specs.declared.environment.Child.{Child}
use Rattle.wc_state.specs.declared.environment.Env.{Env}
use Rattle.wc_state.specs.declared.environment.Item.{Item}
use Rattle.wc_state.specs.declared.environment.Item.TheVariants as item
use Rattle.wc_state.specs.declared.environment.NodeValue.{NodeValue}
use Rattle.wc_state.specs.declared.record.Await.{Await}
use Rattle.wc_state.specs.declared.record.Checkpoint.{Checkpoint}
use Rattle.wc_state.specs.declared.record.Part.{Part}
use Rattle.wc_state.specs.declared.record.Part.TheVariants as part
use Rattle.wc_state.specs.declared.record.ProcessRecord.{ProcessRecord}
use Rattle.wc_world.specs.World.{World}
use Rattle.wc_world.specs.Records.{find_record, library_at, is_call_from}
use Rattle.wc_world.specs.Trees.{branches, recorded_tree, environment_at, value_of}
use Rattle.wc_machine.specs.Outlines.{blocks, left}
use Rattle.wc_machine.specs.Paths.{call_links, kills}
use Rattle.wc_machine.specs.Recorded.{its_definition, recorded_inputs}
use Rattle.wc_machine.specs.Agreement.{Agrees}

-- kills with a stop, which is a number of calls or none: the empty path has the number
abbrev pub with_stop : Kills → Option ℕ → Kills
with_stop kills None path = kills path
with_stop kills (Some n) [] = Some n
with_stop kills (Some n) (label ∷ path) = kills (label ∷ path)

-- how many calls may stand in one another below a process
abbrev pub levels_of : ProcessRecord → ℕ
levels_of r = 16 - r.depth

-- what a process means, with an amount of fuel
abbrev pub meant : World → ProcessRecord → Table → Kills → ℕ → Option Answer
meant w r table kills n =
    option_map (λ library. meaning (levels_of r) library table kills n r.definition (recorded_inputs w r.node)) (library_at w.libraries r.library)

-- ---- where a work chain stands

-- how many of its calls are bound: those that it doesn't await
abbrev pub bound_calls : Checkpoint → ℕ
bound_calls c = c.calls - length c.awaiting

-- a called process's tree as a call that asked for nothing
abbrev pub as_call : Label × Tree → Label × Replayed
as_call b = (b.0, record { tree = b.1; asked = [] })

-- one more value in front of values, where all are there
abbrev pub and_value : Label → Option Value → Option Values → Option Values
and_value label None rest = None
and_value label (Some v) None = None
and_value label (Some v) (Some rest) = Some ((label, v) ∷ rest)

-- the values of the outputs that were set
abbrev pub set_values : World → List (Label × ℕ) → Option Values
set_values w [] = Some []
set_values w (o ∷ os) = and_value o.0 (value_of w.nodes o.1) (set_values w os)

-- an environment without the numbers of its nodes, which play no part in a meaning
abbrev pub without_number : Label × NodeValue → Label × NodeValue
without_number e = (e.0, record { node = 0; value = e.1.value })

-- a child without the numbers of its nodes
abbrev pub child_alone : Child → Child
child_alone c = record { node = 0; state = c.state; outputs = map without_number c.outputs }

-- what a key holds, without the numbers of nodes
abbrev pub item_alone : Item → Item
item_alone (item.Plain v) = item.Plain v
item_alone (item.One c) = item.One (child_alone c)
item_alone (item.Many cs) = item.Many (map child_alone cs)

-- an environment without the numbers of nodes
abbrev pub env_alone : Env → Env
env_alone env = record { inputs = map without_number env.inputs; ctx = map (λ e. (e.0, item_alone e.1)) env.ctx }

-- how far a run has come, from its environment, outputs and calls, where all three are there
abbrev pub progress_with : Option Env → Option Values → Option (List (Label × Tree)) → Option Progress
progress_with None outputs calls = None
progress_with (Some env) None calls = None
progress_with (Some env) (Some outputs) None = None
progress_with (Some env) (Some outputs) (Some calls) = Some (record { env = env; outputs = outputs; calls = map as_call calls })

-- the recorded trees of the calls that are bound, which are its first; the others, which it awaits, may still change
abbrev pub bound_trees : World → ProcessRecord → Checkpoint → Option (List (Label × Tree))
bound_trees w r c = branches (recorded_tree w) r.node (take (bound_calls c) (call_links w r.node))

-- its environment, the outputs that were set, and the recorded trees of the calls that are bound
abbrev pub progress_of : World → ProcessRecord → Checkpoint → Option Progress
progress_of w r c = progress_with (option_map env_alone (environment_at w r.node)) (set_values w c.outputs) (bound_trees w r c)

-- the call of an awaited process, by its record
abbrev pub planned_of : World → Await → Option ProcessRecord → Option Planned
planned_of w a None = None
planned_of w a (Some r) = Some (record { callee = r.definition; key = a.key; append = a.append; inputs = recorded_inputs w r.node })

-- one more call in front of calls, where all are there
abbrev pub and_planned : Option Planned → Option (List Planned) → Option (List Planned)
and_planned None rest = None
and_planned (Some p) None = None
and_planned (Some p) (Some rest) = Some (p ∷ rest)

-- the awaited calls, to be taken
abbrev pub awaited : World → List Await → Option (List Planned)
awaited w [] = Some []
awaited w (a ∷ rest) = and_planned (planned_of w a (find_record a.pid w.records)) (awaited w rest)

-- the awaited children are taken, and then the instructions that its frames leave
abbrev pub gone_on : Option ℕ → ProcessRecord → Chain → Checkpoint → Around → ℕ → List Planned → Progress → Answer
gone_on stop r k c a n planned e = ended stop r.definition k.head.outputs (make_calls planned a n e >-> (λ m f. run (left (blocks k.outline) c.frames) a m f))

module _ (w : World) (table : Table) (cuts : Kills) (stop : Option ℕ) (n : ℕ) (r : ProcessRecord) where
  -- what remains of a chain's run: what it awaits, and then the outline from its checkpoint on
  abbrev pub chain_rest : Checkpoint → Option Definition → Option (List Planned) → Option Progress → Option Answer
  chain_rest c (Some (definition.Chain k)) (Some planned) (Some e) =
      option_map (λ library. gone_on stop r k c (within k.head.outputs stop (around (levels_of r) library table cuts)) n planned e)
      (library_at w.libraries r.library)
  chain_rest c _ _ _ = None

  -- what remains of a live process, by its part: of a chain that has begun the rest of its run, of one that hasn't begun and of a job the whole meaning,
  -- of one that is over nothing
  abbrev pub part_rest : Part → Option Answer
  part_rest (part.Chain c) = chain_rest c (its_definition w r) (awaited w c.awaiting) (progress_of w r c)
  part_rest part.Fresh = meant w r table (with_stop cuts stop) n
  part_rest (part.Job j) = meant w r table (with_stop cuts stop) n
  part_rest part.Over = None

  -- What a live process still gives: what it means, where it is no chain that has begun; else the end of the run from its checkpoint on.
  abbrev pub rest : Option Answer
  rest = part_rest r.part

-- ---- on track

-- whether a part awaits the process with a number
abbrev pub is_awaited : Part → ℕ → Bool
is_awaited (part.Chain c) pid = list_any (λ a. a.pid == pid) c.awaiting
is_awaited part.Fresh pid = false
is_awaited (part.Job j) pid = false
is_awaited part.Over pid = false

-- a process has a bound child under a label
abbrev pub has_bound : World → ProcessRecord → Label → Bool
has_bound w r label = list_any (λ l. (is_call_from r.node l && bytes_eq l.label label) && not (is_awaited r.part l.target)) w.links

-- Kills fit a live process: they lack the empty path, and at and below its bound calls they are those that the world records.
pub record FitKills (cuts : Kills) (w : World) (r : ProcessRecord) : Type 0 where
  pub alive : cuts [] ≡ None
  pub bound : (label : Label) (path : Path) → has_bound w r label ≡ true → cuts (label ∷ path) ≡ kills w r.node (label ∷ path)

-- an answer is a tree
abbrev pub GivesTree : Option Answer → Tree → Type 0
GivesTree answer t = (x : Replayed) × (m : ℕ) × (answer ≡ Some (Gave x m)) × (x.tree ≡ t)

-- A live process is on track: with each agreeing table and with kills that fit it, what it still gives is what it means with so much
-- more fuel as is kept of it; where it means something, it still gives that; and a running chain that has made calls would, killed now,
-- have the tree that is recorded of its calls.
pub record IsOnTrack (w : World) (r : ProcessRecord) : Type 0 where
  pub onward : (table : Table) (cuts : Kills) → Agrees table w r.node → FitKills cuts w r → (n : ℕ) (stop : Option ℕ) (t : Tree)
      → GivesTree (rest w table cuts stop n r) t → GivesTree (meant w r table (with_stop cuts stop) (n + r.fuel)) t
  pub comes : (table : Table) (cuts : Kills) → Agrees table w r.node → FitKills cuts w r → (n : ℕ) (t : Tree)
      → GivesTree (meant w r table cuts n) t → (m : ℕ) × GivesTree (rest w table cuts None m r) t
  pub cut : (table : Table) → Agrees table w r.node → r.state ≡ state.Running → (c : Checkpoint) → r.part ≡ part.Chain c → 0 < c.calls
      → (calls : List (Label × Tree)) × (branches (recorded_tree w) r.node w.links ≡ Some calls)
      × ((t : Tree) × GivesTree (meant w r table (with_stop (kills w r.node) (Some c.calls)) r.fuel) t
      × ((out-Tree t).state ≡ state.Killed) × ((out-Tree t).calls ≡ calls))
