-- The texts of `show` and `graph`.
use Rattle.std.specs.Prelude.{ℕ, suc, Bool, true, false, ◌==◌, ◌&&◌, if◌then◌else◌, List, [], ◌∷◌, ◌++◌, flat_map, Option, Some, None, option_map, codes}
use Rattle.std.specs.List.{concat}
use Rattle.std.specs.Fmt.{decimal}
use Rattle.wc_value.specs.Ascending.{put}
use Rattle.wc_value.specs.declared.value.Value.{Value}
use Rattle.wc_graph.specs.Rules.{node_of}
use Rattle.wc_graph.specs.declared.link.Link.{Link}
use Rattle.wc_graph.specs.declared.link.LinkType.{LinkType}
use Rattle.wc_graph.specs.declared.link.LinkType.TheVariants as link
use Rattle.wc_graph.specs.declared.node.NodeKind.{NodeKind}
use Rattle.wc_graph.specs.declared.node.NodeKind.TheVariants as node
use Rattle.wc_state.specs.declared.record.ProcessRecord.{ProcessRecord}
use Rattle.wc_world.specs.World.{World}
use Rattle.wc_world.specs.Records.{calls, find_record, is_call_from, is_input_of, is_output_of}
use Rattle.wc_report.specs.Lists.{process_kind_text}
use Rattle.wc_report.specs.Names.{state_text, value_text}

-- ---- lines

-- a number in digits, or `none`
abbrev pub number_text : Option ℕ → List ℕ
number_text None = codes "none"
number_text (Some n) = decimal n

-- a word and a number
abbrev pub number_line : List ℕ → Option ℕ → List ℕ
number_line word n = concat (word ∷ codes " " ∷ number_text n ∷ codes "\n" ∷ [])

-- a word, a label and a number
abbrev pub label_line : List ℕ → List ℕ → ℕ → List ℕ
label_line word label n = concat (word ∷ codes " " ∷ label ∷ codes " " ∷ decimal n ∷ codes "\n" ∷ [])

-- ---- links

-- whether a type of link is that of a creation
abbrev pub creates : LinkType → Bool
creates link.InputCalc = false
creates link.InputWork = false
creates link.Create = true
creates link.Return = false
creates link.CallCalc = false
creates link.CallWork = false

-- whether a link creates this node
abbrev pub is_create_to : ℕ → Link → Bool
is_create_to n l = creates l.link && (l.target == n)

-- whether a link calls this process
abbrev pub is_call_to : ℕ → Link → Bool
is_call_to n l = calls l.link && (l.target == n)

-- the labels of these links, ascending by their bytes, each with one of the link's ends
abbrev pub ends_after : (Link → Bool) → (Link → ℕ) → List Link → List (List ℕ × ℕ) → List (List ℕ × ℕ)
ends_after p end [] named = named
ends_after p end (l ∷ ls) named = ends_after p end ls (if p l then put l.label (end l) named else named)

-- the inputs and the outputs of a process
abbrev pub inputs_of : ℕ → List Link → List (List ℕ × ℕ)
inputs_of pid links = ends_after (is_input_of pid) (λ l. l.source) links []

-- the outputs of a process, ascending by the bytes of their labels, each with the number of its node
abbrev pub outputs_of : ℕ → List Link → List (List ℕ × ℕ)
outputs_of pid links = ends_after (is_output_of pid) (λ l. l.target) links []

-- what the first of these links leaves
abbrev pub source_of : (Link → Bool) → List Link → Option ℕ
source_of p [] = None
source_of p (l ∷ ls) = if p l then Some l.source else source_of p ls

-- ---- show

-- a data node: its value, and the calculation that created it
abbrev pub data_text : ℕ → Value → List Link → List ℕ
data_text n v links =
    concat (decimal n ∷ codes " data " ∷ value_text v ∷ codes "\n" ∷ []) ++ number_line (codes "creator") (source_of (is_create_to n) links)

-- number, kind, definition and state
abbrev pub bare_line : ProcessRecord → List ℕ
bare_line r =
    concat (decimal r.node ∷ codes " " ∷ process_kind_text r.kind ∷ codes " " ∷ r.definition ∷ codes " " ∷ state_text r.state ∷ codes "\n" ∷ [])

-- the line that says whether a process has the pause mark
abbrev pub pause_line : Bool → List ℕ
pause_line true = codes "paused yes\n"
pause_line false = codes "paused no\n"

-- a line for each of these, by their labels
abbrev pub named_lines : List ℕ → List (List ℕ × ℕ) → List ℕ
named_lines word = flat_map (λ e. label_line word e.0 e.1)

-- the line of a link that is a call from this process, of any other nothing
abbrev pub called_line : ℕ → Link → List ℕ
called_line pid l = if is_call_from pid l then label_line (codes "called") l.label l.target else []

-- a line for each call, in order
abbrev pub called_lines : ℕ → List Link → List ℕ
called_lines pid = flat_map (called_line pid)

-- what `list` says of a process, whether it has the pause mark, who called it and whose outcome it took
abbrev pub head_text : ProcessRecord → List Link → List ℕ
head_text r links =
    ((bare_line r ++ pause_line r.paused) ++ number_line (codes "caller") (source_of (is_call_to r.node) links))
    ++ number_line (codes "cached_from") r.cached_from

-- a process: its first lines, its inputs, its outputs and its calls
abbrev pub process_text : List Link → ProcessRecord → List ℕ
process_text links r =
    ((head_text r links ++ named_lines (codes "input") (inputs_of r.node links)) ++ named_lines (codes "output") (outputs_of r.node links))
    ++ called_lines r.node links

-- the text of `show` for a node: of a data node, or of a process with its record; none where there is no such node
abbrev pub text_of : World → ℕ → Option NodeKind → Option (List ℕ)
text_of w n None = None
text_of w n (Some (node.Data v)) = Some (data_text n v w.links)
text_of w n (Some node.Calculation) = option_map (process_text w.links) (find_record n w.records)
text_of w n (Some node.Workflow) = option_map (process_text w.links) (find_record n w.records)

-- the text of `show`, where there is a node of this number
abbrev pub show_text : World → ℕ → Option (List ℕ)
show_text w n = text_of w n (node_of w.nodes n)

-- ---- graph

-- The text of `graph`: a line for each node, then one for each link; what a type of link is called
abbrev pub process_line : ℕ → Option ProcessRecord → List ℕ
process_line n None = []
process_line n (Some r) = concat (codes "node " ∷ decimal n ∷ codes " " ∷ process_kind_text r.kind ∷ codes " " ∷ r.definition ∷ codes "\n" ∷ [])

-- The text of `graph`: a line for each node, then one for each link; what a type of link is called
abbrev pub node_line : List ProcessRecord → ℕ → NodeKind → List ℕ
node_line rs n (node.Data v) = concat (codes "node " ∷ decimal n ∷ codes " data " ∷ value_text v ∷ codes "\n" ∷ [])
node_line rs n node.Calculation = process_line n (find_record n rs)
node_line rs n node.Workflow = process_line n (find_record n rs)

-- a line for each node, of which the first has this number
abbrev pub node_lines : List ProcessRecord → ℕ → List NodeKind → List ℕ
node_lines rs n [] = []
node_lines rs n (k ∷ ks) = node_line rs n k ++ node_lines rs (suc n) ks

-- The text of `graph`: a line for each node, then one for each link; what a type of link is called
abbrev pub link_type_text : LinkType → List ℕ
link_type_text link.InputCalc = codes "INPUT_CALC"
link_type_text link.InputWork = codes "INPUT_WORK"
link_type_text link.Create = codes "CREATE"
link_type_text link.Return = codes "RETURN"
link_type_text link.CallCalc = codes "CALL_CALC"
link_type_text link.CallWork = codes "CALL_WORK"

-- The text of `graph`: a line for each node, then one for each link; what a type of link is called
abbrev pub link_line : Link → List ℕ
link_line l =
    concat (codes "link " ∷ decimal l.source ∷ codes " " ∷ decimal l.target ∷ codes " " ∷ link_type_text l.link ∷ codes " " ∷ l.label ∷ codes "\n" ∷ [])

-- the text of `graph`: a line for each node, then one for each link
abbrev pub graph_text : World → List ℕ
graph_text w = node_lines w.records 1 w.nodes ++ flat_map link_line w.links
