-- Which nodes meet a test.
use Rattle.std.specs.Prelude.{ℕ, ℤ, pos, Bool, false, not, ◌&&◌, ◌||◌, List, Option, Some, None, option_map, option_and_then, codes, int_lt}
use Rattle.std.specs.Option.{option_map_or}
use Rattle.std.specs.List.{list_all}
use Rattle.std.specs.Ordering.{int_eq}
use Rattle.std.specs.Str.{bytes_eq}
use Rattle.wc_world.specs.World.{World}
use Rattle.wc_graph.specs.Rules.{node_of}
use Rattle.wc_graph.specs.declared.node.NodeKind.{NodeKind}
use Rattle.wc_graph.specs.declared.node.NodeKind.TheVariants as node
use Rattle.wc_query.specs.declared.query.Field.{Field}
use Rattle.wc_query.specs.declared.query.Field.TheVariants as field
use Rattle.wc_query.specs.declared.query.Filter.{Filter}
use Rattle.wc_query.specs.declared.query.NodeTest.{NodeTest}
use Rattle.wc_query.specs.declared.query.Op.{Op}
use Rattle.wc_query.specs.declared.query.Op.TheVariants as op
use Rattle.wc_query.specs.declared.query.Operand.{Operand}
use Rattle.wc_query.specs.declared.query.Operand.TheVariants.{Word, Number}
use Rattle.wc_report.specs.Lists.{process_kind_text}
use Rattle.wc_report.specs.Names.{kind_text}
use Rattle.wc_value.specs.Kinds.{kind_of}
use Rattle.wc_value.specs.declared.process.ProcessState.{ProcessState}
use Rattle.wc_value.specs.declared.process.ProcessState.TheVariants as state
use Rattle.wc_value.specs.declared.value.Value.{Value, out-Value}
use Rattle.wc_value.specs.declared.value.Value.TheOpen.{Value-F}
use Rattle.wc_world.specs.Records.{find_record}

-- ---- fields

-- the first word of a state
abbrev pub state_word : ProcessState → List ℕ
state_word state.Created = codes "created"
state_word state.Running = codes "running"
state_word state.Waiting = codes "waiting"
state_word (state.Finished n) = codes "finished"
state_word (state.Excepted r) = codes "excepted"
state_word state.Killed = codes "killed"

-- the exit status of a process that has finished
abbrev pub status_of : ProcessState → Option ℕ
status_of state.Created = None
status_of state.Running = None
status_of state.Waiting = None
status_of (state.Finished n) = Some n
status_of (state.Excepted r) = None
status_of state.Killed = None

-- the number that an Int holds
abbrev pub int_seen : Value-F Value → Option ℤ
int_seen (Value-F.Int n) = Some n
int_seen (Value-F.Bool b) = None
int_seen (Value-F.Text t) = None
int_seen (Value-F.List vs) = None
int_seen (Value-F.Dict ps) = None
int_seen (Value-F.Folder fs) = None

-- the number of a data node that is a whole number; any other node has none
abbrev pub int_of : NodeKind → Option ℤ
int_of (node.Data v) = int_seen (out-Value v)
int_of node.Calculation = None
int_of node.Workflow = None

-- what a node has in a field
abbrev pub has_field : World → ℕ → Field → Option Operand
has_field w n field.Name = option_map (λ r. Word r.definition) (find_record n w.records)
has_field w n field.State = option_map (λ r. Word (state_word r.state)) (find_record n w.records)
has_field w n field.Id = Some (Number (pos n))
has_field w n field.Status = option_map (λ s. Number (pos s)) (option_and_then (λ r. status_of r.state) (find_record n w.records))
has_field w n field.Value = option_map Number (option_and_then int_of (node_of w.nodes n))

-- ---- comparisons

-- whether two numbers compare so
abbrev pub compares : Op → ℤ → ℤ → Bool
compares op.Equal a b = int_eq a b
compares op.Differs a b = not (int_eq a b)
compares op.Below a b = int_lt a b
compares op.Above a b = int_lt b a

-- texts have no order here
abbrev pub compares_text : Op → List ℕ → List ℕ → Bool
compares_text op.Equal a b = bytes_eq a b
compares_text op.Differs a b = not (bytes_eq a b)
compares_text op.Below a b = false
compares_text op.Above a b = false

-- a text and a number don't compare
abbrev pub holds : Op → Operand → Operand → Bool
holds op (Word a) (Word b) = compares_text op a b
holds op (Word a) (Number b) = false
holds op (Number a) (Word b) = false
holds op (Number a) (Number b) = compares op a b

-- a node passes a filter where it has the field, and what it has there compares so
abbrev pub passes : World → ℕ → Filter → Bool
passes w n f = option_map_or (λ has. holds f.op has f.operand) (has_field w n f.field) false

-- ---- kinds

-- the kind of a process with this number
abbrev pub is_process_kind : World → ℕ → List ℕ → Bool
is_process_kind w n kind = option_map_or (λ r. bytes_eq kind (process_kind_text r.kind)) (find_record n w.records) false

-- whether a node is of the kind that a word names: `data` or the kind of its value, `process` or the kind of the process
abbrev pub is_node_kind : World → ℕ → List ℕ → NodeKind → Bool
is_node_kind w n kind (node.Data v) = bytes_eq kind (codes "data") || bytes_eq kind (kind_text (kind_of v))
is_node_kind w n kind node.Calculation = bytes_eq kind (codes "process") || is_process_kind w n kind
is_node_kind w n kind node.Workflow = bytes_eq kind (codes "process") || is_process_kind w n kind

-- the node is there and of the kind
abbrev pub is_of_kind : World → ℕ → List ℕ → Bool
is_of_kind w n kind = option_map_or (λ k. bytes_eq kind (codes "any") || is_node_kind w n kind k) (node_of w.nodes n) false

-- the node is there, is of the kind, and has in each filter's field what the filter asks
unfoldable pub meets : World → NodeTest → ℕ → Bool
meets w t n = is_of_kind w n t.kind && list_all (passes w n) t.filters
