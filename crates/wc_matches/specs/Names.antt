-- The words of queries are those of other texts.
use Rattle.std.specs.Prelude.{◌≡◌, true, nat_eq, Some}
use Rattle.std.specs.List.{starts_with}
use Rattle.wc_graph.specs.declared.link.LinkType.{LinkType}
use Rattle.wc_query.specs.Names.{is_kind, is_state, link_type_of}
use Rattle.wc_report.specs.Lists.{process_kind_text}
use Rattle.wc_report.specs.Names.{kind_text, state_text}
use Rattle.wc_report.specs.Shows.{link_type_text}
use Rattle.wc_state.specs.declared.record.ProcessKind.{ProcessKind}
use Rattle.wc_value.specs.declared.process.ProcessState.{ProcessState}
use Rattle.wc_value.specs.declared.value.Kind.{Kind}
use Rattle.wc_matches.specs.Meets.{state_word}

-- what a type of link is called is read as that type
abbrev pub TypesAreRead : Type 0
TypesAreRead = (t : LinkType) → link_type_of (link_type_text t) ≡ Some t

-- what kinds of values and of processes are called are kinds of nodes
abbrev pub KindsAreRead : Type 0
KindsAreRead = ((k : Kind) → is_kind (kind_text k) ≡ true) × ((k : ProcessKind) → is_kind (process_kind_text k) ≡ true)

-- the first word of a state is read, and its text begins with it
abbrev pub StatesAreRead : Type 0
StatesAreRead = (s : ProcessState) → (is_state (state_word s) ≡ true) × (starts_with nat_eq (state_text s) (state_word s) ≡ true)
