-- Which labels are known of nodes with very many links.
use Rattle.std.specs.Prelude.{◌≡◌, ℕ, true, List, Option, Some, None, Result, slice_get, ◌≤◌, Vec, IfOk, IfSome}
use Rattle.std.specs.Ordering.{nat_cmp}
use Rattle.std.specs.Cmp.Lexicographic.{slice_cmp}
use Rattle.std.specs.BTreeMap.{BTreeMap, get}
use Rattle.std.specs.BTreeSet.{BTreeSet, contains_by}
use Rattle.std.specs.declared.alloc.Global.{Global}
use Rattle.std.specs.declared.alloc.AllocError.{AllocError}
use Rattle.wc_graph.specs.declared.link.Link.{Link}
use Rattle.wc_graph.specs.declared.link.LinkType.{LinkType}
use Rattle.wc_graph.specs.declared.link.LinkType.TheVariants.{InputCalc, InputWork, Create, Return, CallCalc, CallWork}
use Rattle.wc_graph.specs.declared.labels.End.{End}
use Rattle.wc_graph.specs.declared.labels.End.TheVariants.{Source, Target}
use Rattle.wc_graph.specs.Index.{source_of, target_of}

-- the node at this end of a link
abbrev pub side : End → Link → ℕ
side Source = source_of
side Target = target_of

-- the node at this end, under a type whose labels stand once there
abbrev pub where_once : End → LinkType → ℕ → Option ℕ
where_once Source InputCalc node = None
where_once Source InputWork node = None
where_once Source Create node = Some node
where_once Source Return node = Some node
where_once Source CallCalc node = None
where_once Source CallWork node = None
where_once Target InputCalc node = Some node
where_once Target InputWork node = Some node
where_once Target Create node = None
where_once Target Return node = None
where_once Target CallCalc node = None
where_once Target CallWork node = None

-- the node at this end of a link, if the link's label stands once there
abbrev pub label_node : End → Link → Option ℕ
label_node end l = where_once end l.link (side end l)

-- a set of labels, each as its bytes
abbrev pub Names : Type 0
Names = BTreeSet (Vec ℕ Global)

-- The label is in the set.
abbrev pub Has : Names → List ℕ → Type 0
Has names label = contains_by (λ k. slice_cmp nat_cmp label k.items) names ≡ true

-- If the node is busy, the label is among its labels.
abbrev pub Knows : BTreeMap ℕ Names → ℕ → List ℕ → Type 0
Knows busy node label = (names : Names) → get nat_cmp busy node ≡ Some names → Has names label

-- The node is busy, and the label isn't among its labels.
abbrev pub Lacks : BTreeMap ℕ Names → Option ℕ → List ℕ → Type 0
Lacks busy None label = ⊥
Lacks busy (Some node) label = ¬ Knows busy node label

-- Each label that stands once at a busy node, at this end, is known.
abbrev pub IsLabelled : End → List Link → BTreeMap ℕ Names → Type 0
IsLabelled end links busy = (k : ℕ) (l : Link) (node : ℕ) → slice_get links k ≡ Some l → label_node end l ≡ Some node → Knows busy node l.label

-- From this place on, each label that stands once at the node, at this end, is in the set.
abbrev pub HasFrom : End → List Link → ℕ → Names → ℕ → Type 0
HasFrom end links node names at = (k : ℕ) (l : Link) → slice_get links k ≡ Some l → at ≤ k → label_node end l ≡ Some node → Has names l.label

-- Where labels were gathered of a node that becomes busy, the label is among them.
abbrev pub IsGathered : Result (Option Names) AllocError → List ℕ → Type 0
IsGathered gathered label = IfOk gathered (λ some. IfSome some (λ names. Has names label))

-- Labels stay known once a node is busy whose labels were gathered, and one label more is known of it.
pub record Notes (old new : BTreeMap ℕ Names) (node : Option ℕ) (gathered : Result (Option Names) AllocError) (label : List ℕ) : Type 0 where
  pub kept : (n : ℕ) (l : List ℕ) → Knows old n l → (node ≡ Some n → IsGathered gathered l) → Knows new n l
  pub put : (n : ℕ) → node ≡ Some n → Knows new n label

-- Labels stay known, and one label more is known of the node.
pub record Settles (old new : BTreeMap ℕ Names) (node : Option ℕ) (label : List ℕ) : Type 0 where
  pub kept : (n : ℕ) (l : List ℕ) → Knows old n l → Knows new n l
  pub put : (n : ℕ) → node ≡ Some n → Knows new n label

-- What was gathered of a node that becomes busy has each label that stands once at it, at this end.
abbrev pub HasGathered : End → List Link → Option ℕ → Result (Option Names) AllocError → Type 0
HasGathered end links node gathered = (k : ℕ) (l : Link) (n : ℕ) → slice_get links k ≡ Some l → node ≡ Some n → label_node end l ≡ Some n → IsGathered gathered l.label
