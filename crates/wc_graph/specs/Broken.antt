-- Which links a link may break a rule beside.
use Rattle.std.specs.Prelude.{◌≡◌, ◌≢◌, ℕ, ◌≤◌, Bool, true, false, List, Some, slice_get}
use Rattle.wc_graph.specs.declared.link.Link.{Link}
use Rattle.wc_graph.specs.declared.link.LinkType.{LinkType}
use Rattle.wc_graph.specs.declared.link.LinkType.TheVariants.{InputCalc, InputWork, Create, Return, CallCalc, CallWork}
use Rattle.wc_graph.specs.declared.rules.Rule.{Rule}
use Rattle.wc_graph.specs.declared.rules.Rule.TheVariants.{Triple, Label, Creator, Caller}
use Rattle.wc_graph.specs.Rules.{TakesTriple, TakesLabel, SharesCreated, SharesCalled, IsCall}

-- A link, beside an earlier one, breaks the rule.
abbrev pub Breaks : Rule → Link → Link → Type 0
Breaks Triple a b = TakesTriple b.link a b
Breaks Label a b = TakesLabel b.link a b
Breaks Creator a b = SharesCreated a b
Breaks Caller a b = SharesCalled a b

-- Links of this type can break the rule.
abbrev pub CanBreak : Rule → LinkType → Type 0
CanBreak Triple t = t ≢ Create
CanBreak Label t = ¬ IsCall t
CanBreak Creator t = t ≡ Create
CanBreak Caller t = IsCall t

-- links of this type break the rule beside links from the same source alone
abbrev pub is_at_source : Rule → LinkType → Bool
is_at_source Triple InputCalc = false
is_at_source Triple InputWork = false
is_at_source Triple Create = false
is_at_source Triple Return = true
is_at_source Triple CallCalc = false
is_at_source Triple CallWork = false
is_at_source Label InputCalc = false
is_at_source Label InputWork = false
is_at_source Label Create = true
is_at_source Label Return = true
is_at_source Label CallCalc = false
is_at_source Label CallWork = false
is_at_source Creator t = false
is_at_source Caller t = false

-- At this place and behind it there is no such link.
abbrev pub NoneFrom : (Link → Type 0) → List Link → ℕ → Type 0
NoneFrom P links at = (k : ℕ) (l : Link) → slice_get links k ≡ Some l → at ≤ k → ¬ P l
