-- The changes of calls as they are answered: of an argument that is a node there is its number alone.
use Rattle.std.specs.Prelude.{ℕ, suc, ◌+◌, List, [], ◌∷◌, ◌++◌, length}
use Rattle.wc_syntax.specs.Findings.{definition_named, is_among}
use Rattle.wc_graph.specs.declared.link.LinkType.{LinkType}
use Rattle.wc_state.specs.declared.record.Await.{Await}
use Rattle.wc_state.specs.declared.record.ProcessKind.{ProcessKind}
use Rattle.wc_outline.specs.declared.calls.Argument.{Argument}
use Rattle.wc_outline.specs.declared.calls.Argument.TheVariants as argument
use Rattle.wc_outline.specs.declared.calls.Call.{Call}
use Rattle.wc_world.specs.declared.change.Change.{Change}
use Rattle.wc_world.specs.declared.change.Change.TheVariants as change
use Rattle.wc_machine.specs.Calls.{kind_named, call_link}
use Rattle.wc_machine.specs.Submissions.{input_link}
use Rattle.wc_changes.specs.declared.children.Caller.{Caller}

-- ---- arguments

-- arguments by port
abbrev pub Args : Type 0
Args = List (List ℕ × Argument)

-- the data node of its own that an argument gets
abbrev pub datum : Argument → List Change
datum (argument.Node n) = []
datum (argument.Plain v) = change.Data v ∷ []

-- the changes that add the new values among arguments
abbrev pub data_of : Args → List Change
data_of [] = []
data_of (a ∷ rest) = datum a.1 ++ data_of rest

-- the node that an argument is, or the next one, where it gets a node of its own
abbrev pub source_at : ℕ → Argument → ℕ
source_at next (argument.Node n) = n
source_at next (argument.Plain v) = next

-- the next number behind an argument
abbrev pub number_after : ℕ → Argument → ℕ
number_after next (argument.Node n) = next
number_after next (argument.Plain v) = suc next

-- the links of all arguments, where the first that gets a node of its own has this one
abbrev pub links_of : LinkType → (next pid : ℕ) → Args → List Change
links_of type next pid [] = []
links_of type next pid (a ∷ rest) =
    change.Link (record { source = source_at next a.1; target = pid; link = type; label = a.0 }) ∷ links_of type (number_after next a.1) pid rest

-- ---- calls

-- how many nodes calls add: one for each called process, and one for each argument that gets a node of its own
abbrev pub added : List Call → ℕ
added [] = 0
added (c ∷ cs) = suc (length (data_of c.args)) + added cs

-- the number that a called process gets, where this is the next number
abbrev pub number_at : ℕ → Call → ℕ
number_at next c = next + length (data_of c.args)

-- what is awaited of calls, where this is the next number
abbrev pub waited : ℕ → List Call → List Await
waited next [] = []
waited next (c ∷ cs) = record { key = c.key; append = c.append; pid = number_at next c } ∷ waited (suc (number_at next c)) cs

module _ (x : Caller) where
  -- the kind of process that a call makes
  abbrev pub kind_at : Call → ProcessKind
  kind_at c = kind_named (definition_named c.definition x.library.now)

  -- the called process, one level deeper than its caller
  abbrev pub child : Call → Change
  child c = change.Process (record {
    kind = kind_at c;
    definition = c.definition;
    library = x.process.now.library;
    depth = suc x.process.now.depth;
    label = c.label;
    caching = is_among c.definition x.caching.now;
  })

  -- the link of a call to the process that it makes
  abbrev pub link_to : ℕ → Call → Change
  link_to next c = change.Link (record { source = x.process.now.node; target = number_at next c; link = call_link (kind_at c); label = c.label })

  -- data nodes, the process, its input links and its call link
  abbrev pub one_call : ℕ → Call → List Change
  one_call next c = data_of c.args ++ child c ∷ (links_of (input_link (kind_at c)) next (number_at next c) c.args ++ link_to next c ∷ [])

  -- the changes of calls one after another, which make nodes from this number on
  abbrev pub all_calls : ℕ → List Call → List Change
  all_calls next [] = []
  all_calls next (c ∷ cs) = one_call next c ++ all_calls (suc (number_at next c)) cs
