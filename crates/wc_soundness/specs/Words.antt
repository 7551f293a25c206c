-- Short words for what a world is written down with.
use Rattle.std.specs.Prelude.{◌≡◌, ℕ, ℤ, List}
use Rattle.wc_value.specs.declared.process.ProcessState.{ProcessState}
use Rattle.wc_value.specs.declared.process.Tree.{Tree, roll-Tree}
use Rattle.wc_syntax.specs.declared.expression.Expr.{Expr, roll-Expr}
use Rattle.wc_syntax.specs.declared.expression.Form.{Form}
use Rattle.wc_syntax.specs.declared.expression.Name.{Name}
use Rattle.wc_syntax.specs.declared.expression.Number.{Number}
use Rattle.wc_syntax.specs.declared.expression.Quoted.{Quoted}
use Rattle.wc_graph.specs.declared.link.Link.{Link}
use Rattle.wc_graph.specs.declared.link.LinkType.{LinkType}
use Rattle.wc_semantics.specs.Tables.{Label}
use Rattle.wc_semantics.specs.Rules.{Values}
use Rattle.wc_world.specs.World.{World}
use Rattle.wc_world.specs.declared.change.Change.{Change}
use Rattle.wc_machine.specs.Machine.{Event, Leads, after_changes}

-- ---- definitions, without offsets

-- a name without a place
abbrev pub word : List ℕ → Name
word text = record { text = text; at = 0 }

-- a text in quotes without a place
abbrev pub quote : List ℕ → Quoted
quote text = record { text = text; at = 0 }

-- a number without a place
abbrev pub number : ℤ → Number
number value = record { value = value; at = 0 }

-- an expression without a place
abbrev pub expr : Form → Expr
expr form = roll-Expr (record { at = 0; form = form })

-- ---- worlds

-- a link between two nodes, of a type, with a label
abbrev pub arrow : ℕ → ℕ → LinkType → List ℕ → Link
arrow source target link label = record { source = source; target = target; link = link; label = label }

-- the tree of a process: its definition, its state, its outputs and the trees of its calls
abbrev pub tree : List ℕ → ProcessState → Values → List (Label × Tree) → Tree
tree definition state outputs calls = roll-Tree (record { definition = definition; state = state; outputs = outputs; calls = calls })

-- At the world the event has these changes, and the world after them is this one.
pub record Makes (w : World) (e : Event) (cs : List Change) (v : World) : Type 0 where
  pub leads : Leads 1000 w e cs
  pub after : after_changes w cs ≡ v
