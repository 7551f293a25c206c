-- A graph takes a link or refuses it.
use Rattle.std.proofs.Common.{◌≡◌, ◌⊎◌, inl, inr, ℕ, zero, suc, List, refl, sym, ap, ◌∙◌}
use Rattle.std.specs.Prelude.{IsSome}
use Rattle.std.proofs.lemmas.Bool.{cases_eq}
use Rattle.wc_graph.specs.declared.node.NodeKind.{NodeKind}
use Rattle.wc_graph.specs.declared.node.NodeKind.TheVariants.{Data, Calculation, Workflow}
use Rattle.wc_graph.specs.declared.link.LinkType.{LinkType}
use Rattle.wc_graph.specs.declared.link.LinkType.TheVariants.{InputCalc, InputWork, Create, Return, CallCalc, CallWork}
use Rattle.wc_graph.specs.declared.link.Link.{Link}
use Rattle.wc_graph.specs.declared.error.GraphError.{GraphError}
use Rattle.wc_graph.specs.declared.error.GraphError.TheVariants.{NoNode, WrongEnds, TripleTaken, LabelTaken, HasCreator, HasCaller}
use Rattle.wc_graph.specs.Rules.{node_of, IsData, IsCalculation, IsWorkflow, Leaves, Enters, HasRightEnds, SharesTriple, SharesLabelAtSource, SharesLabelAtTarget, IsCall, TakesTriple, TakesLabel, SharesCreated, SharesCalled}
use Rattle.wc_graph.specs.Refusals.{Refuses, IsAllowed, TripleIsTaken, LabelIsTaken, DataIsCreated, ProcessIsCalled}
use Rattle.wc_store.specs.DecidedLaws.{LinksAreDecided}
use Rattle.wc_store.proofs.Deciding.{IsDecided, never, always, both, three, four, same_bytes, none_or_some, some_and, any}

-- ---- the ends of a link
data_or_not : (k : NodeKind) → IsDecided (IsData k)
data_or_not (Data value) = always
data_or_not Calculation = never
data_or_not Workflow = never

calculation_or_not : (k : NodeKind) → IsDecided (IsCalculation k)
calculation_or_not (Data value) = never
calculation_or_not Calculation = always
calculation_or_not Workflow = never

workflow_or_not : (k : NodeKind) → IsDecided (IsWorkflow k)
workflow_or_not (Data value) = never
workflow_or_not Calculation = never
workflow_or_not Workflow = always

leaves : (t : LinkType) (k : NodeKind) → IsDecided (Leaves t k)
leaves InputCalc k = data_or_not k
leaves InputWork k = data_or_not k
leaves Create k = calculation_or_not k
leaves Return k = workflow_or_not k
leaves CallCalc k = workflow_or_not k
leaves CallWork k = workflow_or_not k

enters : (t : LinkType) (k : NodeKind) → IsDecided (Enters t k)
enters InputCalc k = calculation_or_not k
enters InputWork k = workflow_or_not k
enters Create k = data_or_not k
enters Return k = data_or_not k
enters CallCalc k = calculation_or_not k
enters CallWork k = workflow_or_not k

right_ends : (nodes : List NodeKind) (b : Link) → IsDecided (HasRightEnds nodes b)
right_ends nodes b =
    both (some_and (Leaves b.link) (leaves b.link) (node_of nodes b.source)) (some_and (Enters b.link) (enters b.link) (node_of nodes b.target))

-- ---- types of links
abbrev number_of : LinkType → ℕ
number_of InputCalc = 0
number_of InputWork = 1
number_of Create = 2
number_of Return = 3
number_of CallCalc = 4
number_of CallWork = 5

abbrev type_of : ℕ → LinkType
type_of zero = InputCalc
type_of (suc zero) = InputWork
type_of (suc (suc zero)) = Create
type_of (suc (suc (suc zero))) = Return
type_of (suc (suc (suc (suc zero)))) = CallCalc
type_of (suc (suc (suc (suc (suc n))))) = CallWork

type_back : (t : LinkType) → type_of (number_of t) ≡ t
type_back InputCalc = refl
type_back InputWork = refl
type_back Create = refl
type_back Return = refl
type_back CallCalc = refl
type_back CallWork = refl

type_by : (s t : LinkType) → IsDecided (number_of s ≡ number_of t) → IsDecided (s ≡ t)
type_by s t (inl same) = inl (sym (type_back s) ∙ ap type_of same ∙ type_back t)
type_by s t (inr differ) = inr (λ h. differ (ap number_of h))

same_type : (s t : LinkType) → IsDecided (s ≡ t)
same_type s t = type_by s t (cases_eq (number_of s) (number_of t))

pub call_or_not : (t : LinkType) → IsDecided (IsCall t)
call_or_not InputCalc = never
call_or_not InputWork = never
call_or_not Create = never
call_or_not Return = never
call_or_not CallCalc = always
call_or_not CallWork = always

-- ---- two links
module _ (a b : Link) where
  shares_triple : IsDecided (SharesTriple a b)
  shares_triple = four (same_type a.link b.link) (cases_eq a.source b.source) (cases_eq a.target b.target) (same_bytes a.label b.label)

  shares_label_at_source : IsDecided (SharesLabelAtSource a b)
  shares_label_at_source = three (same_type a.link b.link) (cases_eq a.source b.source) (same_bytes a.label b.label)

  shares_label_at_target : IsDecided (SharesLabelAtTarget a b)
  shares_label_at_target = three (same_type a.link b.link) (cases_eq a.target b.target) (same_bytes a.label b.label)

  takes_triple : (t : LinkType) → IsDecided (TakesTriple t a b)
  takes_triple InputCalc = shares_triple
  takes_triple InputWork = shares_triple
  takes_triple Create = never
  takes_triple Return = shares_triple
  takes_triple CallCalc = shares_triple
  takes_triple CallWork = shares_triple

  takes_label : (t : LinkType) → IsDecided (TakesLabel t a b)
  takes_label InputCalc = shares_label_at_target
  takes_label InputWork = shares_label_at_target
  takes_label Create = shares_label_at_source
  takes_label Return = shares_label_at_source
  takes_label CallCalc = never
  takes_label CallWork = never

  shares_created : IsDecided (SharesCreated a b)
  shares_created = three (same_type a.link Create) (same_type b.link Create) (cases_eq a.target b.target)

  shares_called : IsDecided (SharesCalled a b)
  shares_called = three (call_or_not a.link) (call_or_not b.link) (cases_eq a.target b.target)

-- ---- one rule after another
module _ (nodes : List NodeKind) (links : List Link) (b : Link) where
  abbrev Answer : Type 0
  Answer = IsAllowed nodes links b ⊎ ((e : GraphError) × Refuses nodes links b e)

  by_caller : HasRightEnds nodes b → ¬ TripleIsTaken links b → ¬ LabelIsTaken links b → ¬ DataIsCreated links b → IsDecided (ProcessIsCalled links b) → Answer
  by_caller ends triple label creator (inl called) = inr (HasCaller, (ends, triple, label, creator, called))
  by_caller ends triple label creator (inr caller) =
      inl (record { ends = ends; triple = triple; label = label; creator = creator; caller = caller })

  by_creator : HasRightEnds nodes b → ¬ TripleIsTaken links b → ¬ LabelIsTaken links b → IsDecided (DataIsCreated links b) → Answer
  by_creator ends triple label (inl created) = inr (HasCreator, (ends, triple, label, created))
  by_creator ends triple label (inr creator) =
      by_caller ends triple label creator (any (λ a. SharesCalled a b) (λ a. shares_called a b) links)

  by_label : HasRightEnds nodes b → ¬ TripleIsTaken links b → IsDecided (LabelIsTaken links b) → Answer
  by_label ends triple (inl taken) = inr (LabelTaken, (ends, triple, taken))
  by_label ends triple (inr label) = by_creator ends triple label (any (λ a. SharesCreated a b) (λ a. shares_created a b) links)

  by_triple : HasRightEnds nodes b → IsDecided (TripleIsTaken links b) → Answer
  by_triple ends (inl taken) = inr (TripleTaken, (ends, taken))
  by_triple ends (inr triple) = by_label ends triple (any (λ a. TakesLabel b.link a b) (λ a. takes_label a b b.link) links)

  by_ends : IsSome (node_of nodes b.source) → IsSome (node_of nodes b.target) → IsDecided (HasRightEnds nodes b) → Answer
  by_ends source target (inl ends) = by_triple ends (any (λ a. TakesTriple b.link a b) (λ a. takes_triple a b b.link) links)
  by_ends source target (inr wrong) = inr (WrongEnds, (source, target, wrong))

  link_answer : Answer
  link_answer =
      elim (none_or_some (node_of nodes b.source)) [
        | inl none ↦ inr (NoNode b.source, inl (refl, none))
        | inr source ↦
            elim (none_or_some (node_of nodes b.target)) [
              | inl none ↦ inr (NoNode b.target, inr (refl, source, none))
              | inr target ↦ by_ends source target (right_ends nodes b)
            ]
      ]

pub links_decided : LinksAreDecided
links_decided nodes links b = link_answer nodes links b
