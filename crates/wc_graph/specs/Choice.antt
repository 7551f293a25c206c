-- Which link types a walk may take.
use Rattle.std.specs.Prelude.{Bool, true, false, List, IsTrue, ◌↔◌, Contains}
use Rattle.wc_graph.specs.declared.link.LinkType.{LinkType}
use Rattle.wc_graph.specs.declared.link.LinkType.TheVariants.{InputCalc, InputWork, Create, Return, CallCalc, CallWork}
use Rattle.wc_graph.specs.declared.choice.Choice.{Choice}

-- whether a type of link is among those chosen
abbrev pub chosen : Choice → LinkType → Bool
chosen c InputCalc = c.input_calc
chosen c InputWork = c.input_work
chosen c Create = c.create
chosen c Return = c.give_back
chosen c CallCalc = c.call_calc
chosen c CallWork = c.call_work

-- The choice is that of the types in this list.
abbrev pub Chooses : Choice → List LinkType → Type 0
Chooses c types = (t : LinkType) → IsTrue (chosen c t) ↔ Contains types t

-- the choice of data provenance
abbrev pub data_choice : Choice
data_choice = record { input_calc = true; input_work = false; create = true; give_back = false; call_calc = false; call_work = false }
