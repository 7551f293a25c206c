-- The rules of links. By the type of a link:
--
--   type        from         to           at the source            at the target
--   InputCalc   data         calculation  no triple twice          label unique per target
--   InputWork   data         workflow     no triple twice          label unique per target
--   Create      calculation  data         label unique per source  at most one Create in
--   Return      workflow     data         label unique per source  no triple twice
--   CallCalc    workflow     calculation  no triple twice          at most one call in
--   CallWork    workflow     workflow     no triple twice          at most one call in
--
-- A triple is the source, the target and the label of a link. Triples and labels count among links of one type, and a
-- call is a link of either of the two last types.
use Rattle.std.specs.Prelude.{◌≡◌, ◌≢◌, ℕ, zero, suc, List, Option, Some, None, slice_get, All, IsSomeAnd}
use Rattle.wc_graph.specs.declared.node.NodeKind.{NodeKind}
use Rattle.wc_graph.specs.declared.node.NodeKind.TheVariants.{Data, Calculation, Workflow}
use Rattle.wc_graph.specs.declared.link.LinkType.{LinkType}
use Rattle.wc_graph.specs.declared.link.LinkType.TheVariants.{InputCalc, InputWork, Create, Return, CallCalc, CallWork}
use Rattle.wc_graph.specs.declared.link.Link.{Link}

-- the node with this number, counted from 1
abbrev pub node_of : List NodeKind → ℕ → Option NodeKind
node_of nodes zero = None
node_of nodes (suc place) = slice_get nodes place

-- the node is data
abbrev pub IsData : NodeKind → Type 0
IsData (Data value) = Unit {0}
IsData Calculation = ⊥
IsData Workflow = ⊥

-- the node is a calculation
abbrev pub IsCalculation : NodeKind → Type 0
IsCalculation (Data value) = ⊥
IsCalculation Calculation = Unit {0}
IsCalculation Workflow = ⊥

-- the node is a workflow
abbrev pub IsWorkflow : NodeKind → Type 0
IsWorkflow (Data value) = ⊥
IsWorkflow Calculation = ⊥
IsWorkflow Workflow = Unit {0}

-- the column 'from'
abbrev pub Leaves : LinkType → NodeKind → Type 0
Leaves InputCalc = IsData
Leaves InputWork = IsData
Leaves Create = IsCalculation
Leaves Return = IsWorkflow
Leaves CallCalc = IsWorkflow
Leaves CallWork = IsWorkflow

-- the column 'to'
abbrev pub Enters : LinkType → NodeKind → Type 0
Enters InputCalc = IsCalculation
Enters InputWork = IsWorkflow
Enters Create = IsData
Enters Return = IsData
Enters CallCalc = IsCalculation
Enters CallWork = IsWorkflow

-- the ends of a link are nodes of the kinds that its type joins
abbrev pub HasRightEnds : List NodeKind → Link → Type 0
HasRightEnds nodes l = IsSomeAnd (node_of nodes l.source) (Leaves l.link) × IsSomeAnd (node_of nodes l.target) (Enters l.link)

-- two links have the same type, ends and label
abbrev pub SharesTriple : Link → Link → Type 0
SharesTriple a b = (a.link ≡ b.link) × (a.source ≡ b.source) × (a.target ≡ b.target) × (a.label ≡ b.label)

-- two links of one type have the same source and label
abbrev pub SharesLabelAtSource : Link → Link → Type 0
SharesLabelAtSource a b = (a.link ≡ b.link) × (a.source ≡ b.source) × (a.label ≡ b.label)

-- two links of one type have the same target and label
abbrev pub SharesLabelAtTarget : Link → Link → Type 0
SharesLabelAtTarget a b = (a.link ≡ b.link) × (a.target ≡ b.target) × (a.label ≡ b.label)

-- a type of link is that of a call
abbrev pub IsCall : LinkType → Type 0
IsCall InputCalc = ⊥
IsCall InputWork = ⊥
IsCall Create = ⊥
IsCall Return = ⊥
IsCall CallCalc = Unit {0}
IsCall CallWork = Unit {0}

-- Against a rule 'no triple twice' of its row, a link of this type has the triple of another.
abbrev pub TakesTriple : LinkType → Link → Link → Type 0
TakesTriple InputCalc a b = SharesTriple a b
TakesTriple InputWork a b = SharesTriple a b
TakesTriple Create a b = ⊥
TakesTriple Return a b = SharesTriple a b
TakesTriple CallCalc a b = SharesTriple a b
TakesTriple CallWork a b = SharesTriple a b

-- Against a rule 'label unique' of its row, a link of this type has the label of another at the same end.
abbrev pub TakesLabel : LinkType → Link → Link → Type 0
TakesLabel InputCalc a b = SharesLabelAtTarget a b
TakesLabel InputWork a b = SharesLabelAtTarget a b
TakesLabel Create a b = SharesLabelAtSource a b
TakesLabel Return a b = SharesLabelAtSource a b
TakesLabel CallCalc a b = ⊥
TakesLabel CallWork a b = ⊥

-- Both links create the same data.
abbrev pub SharesCreated : Link → Link → Type 0
SharesCreated a b = (a.link ≡ Create) × (b.link ≡ Create) × (a.target ≡ b.target)

-- Both links call the same process.
abbrev pub SharesCalled : Link → Link → Type 0
SharesCalled a b = IsCall a.link × IsCall b.link × (a.target ≡ b.target)

-- Two different links of a list break no rule.
pub record AreApart (a b : Link) : Type 0 where
  pub triples : ¬ TakesTriple b.link a b
  pub labels : ¬ TakesLabel b.link a b
  pub creators : ¬ SharesCreated a b
  pub callers : ¬ SharesCalled a b

-- Each link has the right ends, and any two at different places break no rule.
pub record IsLinkCorrect (nodes : List NodeKind) (links : List Link) : Type 0 where
  pub ends : All (HasRightEnds nodes) links
  pub apart : (i j : ℕ) (a b : Link) → i ≢ j → slice_get links i ≡ Some a → slice_get links j ≡ Some b → AreApart a b
