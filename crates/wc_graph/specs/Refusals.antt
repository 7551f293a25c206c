-- When a graph refuses a link.
use Rattle.std.specs.Prelude.{◌≡◌, ◌≢◌, ◌↔◌, ℕ, List, Result, Err, Any, IsSome, IsNone, ◌⊎◌}
use Rattle.wc_graph.specs.declared.node.NodeKind.{NodeKind}
use Rattle.wc_graph.specs.declared.link.Link.{Link}
use Rattle.wc_graph.specs.declared.error.GraphError.{GraphError}
use Rattle.wc_graph.specs.declared.error.GraphError.TheVariants.{NoNode, WrongEnds, TripleTaken, LabelTaken, HasCreator, HasCaller, Full, OutOfMemory}
use Rattle.wc_graph.specs.Rules.{node_of, HasRightEnds, TakesTriple, TakesLabel, SharesCreated, SharesCalled}

-- ---- the link would break a rule beside a link of the list
-- a link would have the type, both ends and the label of one in the list, where its type allows that once
abbrev pub TripleIsTaken : List Link → Link → Type 0
TripleIsTaken links b = Any (λ a. TakesTriple b.link a b) links

-- a link would have the label of one of its type in the list at the same end, where labels of the type are unique there
abbrev pub LabelIsTaken : List Link → Link → Type 0
LabelIsTaken links b = Any (λ a. TakesLabel b.link a b) links

-- the data that a link would create has a creator
abbrev pub DataIsCreated : List Link → Link → Type 0
DataIsCreated links b = Any (λ a. SharesCreated a b) links

-- the process that a link would call has a caller
abbrev pub ProcessIsCalled : List Link → Link → Type 0
ProcessIsCalled links b = Any (λ a. SharesCalled a b) links

-- The number is that of an end of the link, the source first, and of no node.
abbrev pub IsMissing : List NodeKind → Link → ℕ → Type 0
IsMissing nodes b id =
    ((id ≡ b.source) × IsNone (node_of nodes b.source))
    ⊎ ((id ≡ b.target) × IsSome (node_of nodes b.source) × IsNone (node_of nodes b.target))

-- The link breaks the rule of this refusal, and none of those before it in the order below.
abbrev pub Refuses : List NodeKind → List Link → Link → GraphError → Type 0
Refuses nodes links b (NoNode id) = IsMissing nodes b id
Refuses nodes links b WrongEnds =
    IsSome (node_of nodes b.source) × IsSome (node_of nodes b.target) × (¬ HasRightEnds nodes b)
Refuses nodes links b TripleTaken = HasRightEnds nodes b × TripleIsTaken links b
Refuses nodes links b LabelTaken = HasRightEnds nodes b × (¬ TripleIsTaken links b) × LabelIsTaken links b
Refuses nodes links b HasCreator =
    HasRightEnds nodes b × (¬ TripleIsTaken links b) × (¬ LabelIsTaken links b) × DataIsCreated links b
Refuses nodes links b HasCaller =
    HasRightEnds nodes b × (¬ TripleIsTaken links b) × (¬ LabelIsTaken links b) × (¬ DataIsCreated links b)
    × ProcessIsCalled links b
Refuses nodes links b Full = ⊥
Refuses nodes links b OutOfMemory = ⊥

-- The link breaks no rule.
pub record IsAllowed (nodes : List NodeKind) (links : List Link) (b : Link) : Type 0 where
  pub ends : HasRightEnds nodes b
  pub triple : ¬ TripleIsTaken links b
  pub label : ¬ LabelIsTaken links b
  pub creator : ¬ DataIsCreated links b
  pub caller : ¬ ProcessIsCalled links b

-- An answer other than want of memory refuses exactly where this says so.
abbrev pub RefusesExactly : {T : Type 0} → Result T GraphError → (GraphError → Type 0) → Type 0
RefusesExactly result says = (e : GraphError) → e ≢ OutOfMemory → (result ≡ Err e) ↔ says e
